use Rattle.std.proofs.Common.{◌-◌, length}
use Rattle.stage_choice.specs.Made.{IsMade}
use Rattle.stage_choice.proofs.reach.made_of.Given as goal

abbrev pub invariant-loop-made : goal.invariant-loop-made
invariant-loop-made l = IsMade l.builds l.made

abbrev pub decreases-loop-made : goal.decreases-loop-made
decreases-loop-made l = length l.builds - length l.made.order.items
