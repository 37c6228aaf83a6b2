use Rattle.std.proofs.Common.{sym, ◌∙◌}
use Rattle.farm_model.proofs.TrapLaws.{trap-first, trap-later, no-traps}
use Rattle.chroot_state.proofs.Needed.{needed_removed}
use Rattle.chroot_state.proofs.withdraw.remove_trap.Goals as goal

pub returns-then-some_absent : goal.returns-then-some_absent
returns-then-some_absent c =
    trap-first _ _ _ (sym c.some_absent.ensures ∙ c.if-some_absent.true)

pub returns-then-some_member : goal.returns-then-some_member
returns-then-some_member c =
    trap-first _ _ _ (sym c.some_member.ensures ∙ c.if-some_member.true)
    ∙ trap-later _ _ _ (sym c.some_absent.ensures ∙ c.if-some_absent.false)

pub returns-then-is_needed : goal.returns-then-is_needed
returns-then-is_needed c =
    trap-first _ _ _ (sym (needed_removed c.args.universe.now c.args.slots.now c.args.members.now)
    ∙ (sym c.is_needed.ensures ∙ c.if-is_needed.true))
    ∙ trap-later _ _ _ (sym c.some_member.ensures ∙ c.if-some_member.false)
    ∙ trap-later _ _ _ (sym c.some_absent.ensures ∙ c.if-some_absent.false)

pub returns : goal.returns
returns c =
    no-traps
    ∙ trap-later _ _ _ (sym (needed_removed c.args.universe.now c.args.slots.now c.args.members.now)
    ∙ (sym c.is_needed.ensures ∙ c.if-is_needed.false))
    ∙ trap-later _ _ _ (sym c.some_member.ensures ∙ c.if-some_member.false)
    ∙ trap-later _ _ _ (sym c.some_absent.ensures ∙ c.if-some_absent.false)
