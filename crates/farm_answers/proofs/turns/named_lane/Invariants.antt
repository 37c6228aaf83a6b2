use Rattle.std.proofs.Common.{◌≡◌, drop}
use Rattle.farm_answers.specs.Turns.{named_from}
use Rattle.farm_answers.proofs.turns.named_lane.Given as goal

abbrev pub invariant-loop-number : goal.invariant-loop-number
invariant-loop-number l =
    named_from l.name l.number (drop l.number l.plan.lanes) ≡ named_from l.name 0 l.plan.lanes
