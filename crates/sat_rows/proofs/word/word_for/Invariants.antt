use Rattle.std.proofs.Common.{◌≡◌, ℕ, ◌&&◌, nat_lt}
use Rattle.clause_kernel.specs.Rows.{word_has}
use Rattle.farm_model.specs.Packages.{variant}
use Rattle.sat_rows.proofs.word.word_for.Given as goal

-- the bits so far
abbrev pub invariant-loop-bit : goal.invariant-loop-bit
invariant-loop-bit g l =
    (b : ℕ) → word_has l.word b
    ≡ (nat_lt b l.bit && g.T.VariantTest.test l.universe l.test (variant l.name b))
