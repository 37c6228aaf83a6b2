use Rattle.std.proofs.Common.{◌≡◌, ℕ, ◌-◌, ◌≤◌, Bool, List, length, drop}
use Rattle.clause_kernel.specs.Kernels.{some_pair}
use Rattle.clause_kernel.proofs.compare.some_pair.Given as goal

-- no pair has passed, so the rest decides
abbrev pub RestDecides : (ℕ → ℕ → Bool) → ℕ → List ℕ → List ℕ → Type 0
RestDecides test at a b =
    (at ≤ length a) × (some_pair test (drop at a) (drop at b) ≡ some_pair test a b)

abbrev pub invariant-loop-at : goal.invariant-loop-at
invariant-loop-at g l = RestDecides g.T.PairTest.test l.at l.a l.b

abbrev pub decreases-loop-at : goal.decreases-loop-at
decreases-loop-at g l = length l.a - l.at

abbrev pub invariant-loop-at-2 : goal.invariant-loop-at-2
invariant-loop-at-2 g l = RestDecides g.T.PairTest.test l.at l.a l.b

abbrev pub decreases-loop-at-2 : goal.decreases-loop-at-2
decreases-loop-at-2 g l = length l.a - l.at
