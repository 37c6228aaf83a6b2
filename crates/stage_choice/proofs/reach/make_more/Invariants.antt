use Rattle.std.proofs.Common.{◌≡◌, ℕ, ◌<◌, ◌≤◌, false, true, length}
use Rattle.stage_choice.specs.Orders.{can_follow}
use Rattle.stage_choice.specs.Made.{IsMade}
use Rattle.stage_choice.proofs.reach.make_more.Given as goal

abbrev pub invariant-loop-place : goal.invariant-loop-place
invariant-loop-place l = record {
  made : IsMade l.builds l.made;
  kept : length l.initial.made.order.items ≤ length l.made.order.items;
  longer : l.is_more ≡ true
      → length l.initial.made.order.items < length l.made.order.items;
  none : l.is_more ≡ false → (k : ℕ) → k < l.place
      → can_follow l.builds l.made.order.items k ≡ false;
}
