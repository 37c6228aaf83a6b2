use Rattle.std.proofs.Common.{Some, false, refl, subst, sym, ◌∙◌}
use Rattle.farm_commands.specs.Imports.{AreOfKind}
use Rattle.farm_commands.specs.declared.by_wish.Made.{Made}
use Rattle.import_wish.specs.Targets.{leaves_choice_in}
use Rattle.farm_commands.proofs.by_wish.import_by_wish.Goals as goal

pub returns-then-branch-2 : goal.returns-then-branch-2
returns-then-branch-2 g c =
    let inputs = c.args.inputs in
    let made : Made = record {
      imported = c.in_ok-imported-2.imported;
      chosen = Some c.in_ok-imported-2.text;
    } in
    subst (λ cross. AreOfKind cross (leaves_choice_in inputs.wish.now) inputs made)
    (sym (sym c.in_ok-is_cross.ensures ∙ c.if-branch.false))
    (subst (λ leaves. AreOfKind false leaves inputs made)
    (sym (sym c.in_ok-leaves_a_choice.ensures ∙ c.if-branch-2.true))
    (c.in_ok-imported-2.text.items, refl, c.in_ok-imported-2.ensures))
