use Rattle.std.proofs.Common.{◌≡◌, false, take}
use Rattle.chroot_state.specs.Needed.{met_inside}
use Rattle.chroot_state.proofs.withdraw.met_inside.Given as goal

abbrev pub invariant-loop-member : goal.invariant-loop-member
invariant-loop-member l =
    met_inside l.universe (take l.member-index l.members) l.slots l.entry ≡ false
