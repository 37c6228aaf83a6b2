use Rattle.std.proofs.Common.{◌∙◌}
use Rattle.chroot_state.proofs.Present.{listed_any}
use Rattle.chroot_state.proofs.slots.some_slot.Goals as goal

pub returns : goal.returns
returns g c =
    c.some_of.ensures
    ∙ listed_any c.args.slots.now c.present.result.now c.present.ensures
    (g.T.SlotTest.test c.args.universe.now c.args.test.now)
    (g.met.T.SlotTest.absent c.args.universe.now c.args.test.now)
