use Rattle.std.proofs.Common.{◌≡◌, ◌≤◌, ◌*◌}
use Rattle.farm_model.specs.Common.{sum_below, slot, size_in}
use Rattle.farm_universe.specs.declared.limits.TheConstants.{MOST_SIZE}
use Rattle.chroot_state.proofs.space.space.Given as goal

abbrev pub invariant-loop-name : goal.invariant-loop-name
invariant-loop-name l = record {
  used : l.used ≡ sum_below l.name (λ n. size_in l.universe n (slot l.slots n));
  small : l.used ≤ l.name * MOST_SIZE;
}
