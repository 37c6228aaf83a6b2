use Rattle.std.proofs.Common.{◌≡◌, take}
use Rattle.stage_choice.specs.Made.{IsMade}
use Rattle.stage_choice.proofs.reach.leads_to.Given as goal

abbrev pub invariant-loop-place : goal.invariant-loop-place
invariant-loop-place l = record {
  made : IsMade l.builds l.made;
  order : l.made.order.items ≡ take l.place-index l.order;
}
