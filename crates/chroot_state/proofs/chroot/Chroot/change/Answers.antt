use Rattle.std.proofs.Common.{refl, sym, ap, ◌∙◌, get_or, arith}
use Rattle.farm_model.specs.Chroot.{slot}
use Rattle.chroot_state.specs.Changes.{changed_slot}
use Rattle.chroot_state.proofs.Effects.{changed-none, change-step}
use Rattle.chroot_state.proofs.chroot.Chroot.change.Goals as goal

pub loop-member-init : goal.loop-member-init
loop-member-init c = record {
  held = c.requires.held;
  base = refl;
  slots = sym (changed-none c.args.change c.args.self.now.slots);
}

pub loop-member-preserved : goal.loop-member-preserved
loop-member-preserved c = record {
  held = c.put.ensures.held;
  base = ap (λ h. h.base) c.put.ensures.put ∙ c.loop-member.invariant.base;
  slots = ap (λ h. h.slots) c.put.ensures.put
      ∙ change-step c.args.change c.args.self.now.slots c.loop-member.self.slots
      c.args.members.now c.loop-member.member-index c.of-slot.result c.loop-member-test.true
      (omega (
        arith,
        c.requires.held.slots.long,
        c.requires.named c.loop-member.member-index 0 c.loop-member-test.true,
      ))
      c.loop-member.invariant.slots
      (c.of-slot.ensures
      ∙ ap (changed_slot c.args.change)
      (c.slot_at.ensures
      ∙ ap (λ xs. slot xs (get_or c.args.members.now c.loop-member.member-index 0))
      (ap (λ h. h.slots) c.self.view_is)));
}
