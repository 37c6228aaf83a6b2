use Rattle.std.proofs.Common.{◌≡◌, ◌||◌, Bool, length, take}
use Rattle.farm_model.specs.Packages.{names, contains}
use Rattle.farm_model.specs.declared.types.Variant.{Variant}
use Rattle.sat_rows.specs.Rows.{IsRowOf}
use Rattle.plan_cert.proofs.facts.with_outputs.Given as goal

-- the outputs so far
abbrev pub invariant-loop-n : goal.invariant-loop-n
invariant-loop-n l =
    (length l.row ≡ names l.universe)
    × ((test : Variant → Bool) → IsRowOf l.universe test l.before
    → IsRowOf l.universe (λ v. test v || contains (take l.n l.outputs) v) l.row)
