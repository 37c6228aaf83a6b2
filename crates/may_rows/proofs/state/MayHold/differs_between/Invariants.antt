use Rattle.std.proofs.Common.{◌≡◌, ℕ, ◌<◌, ◌≤◌, true}
use Rattle.plan_model.specs.Join.{is_same_phase}
use Rattle.may_rows.specs.Words.{may_of}
use Rattle.may_rows.proofs.state.MayHold.differs_between.Given as goal

abbrev pub invariant-loop-name : goal.invariant-loop-name
invariant-loop-name l =
    (k : ℕ) → l.from ≤ k → k < l.name
    → is_same_phase ((may_of l.first).slots k) ((may_of l.self).slots k) ≡ true
