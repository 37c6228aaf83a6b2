use Rattle.std.proofs.Common.{drop}
use Rattle.farm_model.specs.Packages.{base}
use Rattle.chroot_state.proofs.Opened.{BasedFrom}
use Rattle.chroot_state.proofs.base.base_slots.Given as goal

abbrev pub invariant-loop-i : goal.invariant-loop-i
invariant-loop-i l =
    BasedFrom l.universe l.number (drop l.i (base l.universe l.number).packages) l.slots.items
