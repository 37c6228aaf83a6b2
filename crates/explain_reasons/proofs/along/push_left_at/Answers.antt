use Rattle.std.proofs.Common.{Some, sym, ap, subst, ◌∙◌}
use Rattle.plan_model.specs.Sound.{IsNameSet}
use Rattle.plan_model.specs.declared.instructions.Instruction.TheVariants.{Remove}
use Rattle.explain_reasons.proofs.along.push_left_at.Goals as goal

pub list_needing-requires-clause-members : goal.list_needing-requires-clause-members
list_needing-requires-clause-members g c =
    subst (IsNameSet c.args.stage.now.universe.now) (sym c.as_slice.ensures)
    (c.requires.stage.sound.plan.instructions c.args.number c.args.place
    (Remove c.in-Some-Remove.members) c.requires.lane
    (sym c.in-Some-Remove.ensures ∙ ap Some c.in-Some-Remove.field-0-is))
