use Rattle.std.proofs.Common.{◌≡◌, ◌||◌, Bool, length, take}
use Rattle.farm_model.specs.Packages.{names}
use Rattle.farm_model.specs.declared.types.Variant.{Variant}
use Rattle.sat_rows.specs.Rows.{IsRowOf}
use Rattle.known_rows.proofs.ClockRows.{any_output}
use Rattle.known_rows.proofs.clock.add_outputs.Given as goal

-- the outputs so far
abbrev pub invariant-loop-n : goal.invariant-loop-n
invariant-loop-n l =
    (length l.row ≡ names l.known.universe.now)
    × ((test : Variant → Bool) → IsRowOf l.known.universe.now test l.initial.row
    → IsRowOf l.known.universe.now (λ v. test v || any_output (take l.n l.outputs) v) l.row)
