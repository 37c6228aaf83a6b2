use Rattle.chroot_state.proofs.slots.some_named_slot.Given as goal

abbrev pub invariant-loop-atom : goal.invariant-loop-atom
invariant-loop-atom g l = Unit {0}
