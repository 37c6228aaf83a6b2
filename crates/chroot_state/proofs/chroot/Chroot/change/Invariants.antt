use Rattle.std.proofs.Common.{◌≡◌, take}
use Rattle.farm_model.specs.Traps.{changed}
use Rattle.chroot_state.specs.Changes.{changed_slot}
use Rattle.chroot_state.specs.Held.{IsHeld}
use Rattle.chroot_state.proofs.chroot.Chroot.change.Given as goal

abbrev pub invariant-loop-member : goal.invariant-loop-member
invariant-loop-member l = record {
  held : IsHeld l.universe l.self;
  base : l.self.base ≡ l.initial.self.base;
  slots : l.self.slots
      ≡ changed (changed_slot l.change) l.initial.self.slots (take l.member-index l.members);
}
