use Rattle.std.proofs.Common.{◌≡◌, ◌||◌, Bool, length, take}
use Rattle.std.specs.List.{list_any}
use Rattle.farm_model.specs.Packages.{names}
use Rattle.farm_model.specs.declared.types.Variant.{Variant}
use Rattle.plan_model.specs.Known.{gives}
use Rattle.sat_rows.specs.Rows.{IsRowOf}
use Rattle.plan_verifier.proofs.possible.add_lane.Given as goal

-- the instructions so far
abbrev pub invariant-loop-instruction : goal.invariant-loop-instruction
invariant-loop-instruction l =
    (length l.row ≡ names l.universe)
    × ((test : Variant → Bool) → IsRowOf l.universe test l.initial.row
    → IsRowOf l.universe
    (λ v. test v || list_any (gives l.universe v) (take l.instruction-index l.instructions)) l.row)
