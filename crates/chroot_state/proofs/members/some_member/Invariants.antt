use Rattle.std.proofs.Common.{◌≡◌, false, take}
use Rattle.farm_model.specs.Traps.{some_member}
use Rattle.chroot_state.proofs.members.some_member.Given as goal

abbrev pub invariant-loop-member : goal.invariant-loop-member
invariant-loop-member g l =
    some_member (take l.member-index l.members) l.slots (g.T.VariantTest.test l.universe l.test)
    ≡ false
