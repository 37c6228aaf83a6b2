use Rattle.std.proofs.Common.{◌≡◌, false, take}
use Rattle.std.specs.List.{list_any}
use Rattle.farm_model.specs.Chroot.{slot}
use Rattle.chroot_state.proofs.slots.some_of.Given as goal

abbrev pub invariant-loop-name : goal.invariant-loop-name
invariant-loop-name g l =
    list_any (λ n. g.T.SlotTest.test l.universe l.test n (slot l.slots n))
    (take l.name-index l.listed)
    ≡ false
