use Rattle.std.proofs.Common.{◌≡◌, ◌||◌, Bool, length, take}
use Rattle.farm_model.specs.Packages.{names, contains}
use Rattle.farm_model.specs.declared.types.Variant.{Variant}
use Rattle.sat_rows.specs.Rows.{IsRowOf}
use Rattle.plan_verifier.proofs.possible.add_recipe.Given as goal

-- the outputs so far
abbrev pub invariant-loop-output : goal.invariant-loop-output
invariant-loop-output l =
    (length l.row ≡ names l.universe)
    × ((test : Variant → Bool) → IsRowOf l.universe test l.initial.row
    → IsRowOf l.universe (λ v. test v || contains (take l.output-index l.outputs) v) l.row)
