use Rattle.std.proofs.Common.{◌≡◌, false, take}
use Rattle.stage_choice.specs.Orders.{has}
use Rattle.stage_choice.proofs.reach.ahead_of.Given as goal

abbrev pub invariant-loop-number : goal.invariant-loop-number
invariant-loop-number l = has (take l.number l.order) l.end ≡ false
