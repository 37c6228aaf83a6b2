use Rattle.std.proofs.Common.{◌||◌, Bool, OnOk, sym, subst}
use Rattle.farm_model.specs.declared.types.Variant.{Variant}
use Rattle.plan_model.specs.Known.{gives}
use Rattle.plan_model.specs.declared.instructions.Instruction.{Instruction}
use Rattle.sat_rows.specs.Rows.{IsRowOf}
use Rattle.plan_verifier.proofs.possible.add_outputs.Goals as goal

pub returns-in-Publish-clause-added : goal.returns-in-Publish-clause-added
returns-in-Publish-clause-added c =
    let u = c.args.universe.now in
    subst
    (λ (x : Instruction). OnOk c.add_recipe.result
    ((test : Variant → Bool) → IsRowOf u test c.args.row.now
    → IsRowOf u (λ v. test v || gives u v x) c.add_recipe.new.row))
    (sym c.in-Publish.is) c.add_recipe.ensures.added
