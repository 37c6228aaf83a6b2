use Rattle.std.proofs.Common.{sym, ap, ◌∙◌, length, arith}
use Rattle.farm_model.specs.Chroot.{slot}
use Rattle.farm_model.proofs.BelowLaws.{some_below-at}
use Rattle.chroot_state.proofs.slots.some_named_slot.Goals as goal

pub returns-then-passes : goal.returns-then-passes
returns-then-passes g c = λ _.
    some_below-at (length c.args.slots.now)
    (λ n. g.T.SlotTest.test c.args.universe.now c.args.test.now n (slot c.args.slots.now n))
    c.in-Some.name (omega (arith, c.requires.slots.long, c.in-Some.ensures.within))
    (ap (g.T.SlotTest.test c.args.universe.now c.args.test.now c.in-Some.name)
    (sym c.slot_at.ensures)
    ∙ (sym c.passes.ensures ∙ c.if-passes.true))
