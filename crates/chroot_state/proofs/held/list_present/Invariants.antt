use Rattle.std.proofs.Common.{◌≡◌, ◌≤◌, ℕ, length}
use Rattle.std.specs.List.{sum_by}
use Rattle.std.specs.Vec.{vec_capacity}
use Rattle.farm_model.specs.Common.{sum_below, slot}
use Rattle.chroot_state.specs.Present.{if_present}
use Rattle.chroot_state.proofs.held.list_present.Given as goal

abbrev pub invariant-loop-name : goal.invariant-loop-name
invariant-loop-name l = record {
  listed : (f : ℕ → ℕ) → sum_by f l.present.items
      ≡ sum_below l.name (λ n. if_present (slot l.slots n) (f n));
  short : length l.present.items ≤ l.name;
  room : vec_capacity l.present ≡ vec_capacity l.initial.present;
}
