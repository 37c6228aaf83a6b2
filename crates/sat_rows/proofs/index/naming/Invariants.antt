use Rattle.std.proofs.Common.{ℕ, ◌<◌}
use Rattle.sat_rows.specs.Index.{AreNaming}
use Rattle.sat_rows.proofs.index.naming.Given as goal

abbrev pub invariant-loop-name : goal.invariant-loop-name
invariant-loop-name g l =
    (n : ℕ) → n < l.name → AreNaming l.universe g.F.Field.field n l.index
