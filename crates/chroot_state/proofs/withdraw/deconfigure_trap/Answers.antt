use Rattle.std.proofs.Common.{sym, ◌∙◌}
use Rattle.farm_model.proofs.TrapLaws.{trap-first, trap-later, no-traps}
use Rattle.chroot_state.proofs.Needed.{needed_deconfigured}
use Rattle.chroot_state.proofs.withdraw.deconfigure_trap.Goals as goal

pub returns-then-some_not_configured : goal.returns-then-some_not_configured
returns-then-some_not_configured c =
    trap-first _ _ _ (sym c.some_not_configured.ensures ∙ c.if-some_not_configured.true)

pub returns-then-is_needed : goal.returns-then-is_needed
returns-then-is_needed c =
    trap-first _ _ _ (sym
    (needed_deconfigured c.args.universe.now c.args.slots.now c.args.members.now)
    ∙ (sym c.is_needed.ensures ∙ c.if-is_needed.true))
    ∙ trap-later _ _ _ (sym c.some_not_configured.ensures ∙ c.if-some_not_configured.false)

pub returns : goal.returns
returns c =
    no-traps
    ∙ trap-later _ _ _ (sym
    (needed_deconfigured c.args.universe.now c.args.slots.now c.args.members.now)
    ∙ (sym c.is_needed.ensures ∙ c.if-is_needed.false))
    ∙ trap-later _ _ _ (sym c.some_not_configured.ensures ∙ c.if-some_not_configured.false)
