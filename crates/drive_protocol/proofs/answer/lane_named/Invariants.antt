use Rattle.std.proofs.Common.{◌≡◌, drop}
use Rattle.drive_protocol.specs.AnswerText.{named_from}
use Rattle.drive_protocol.proofs.answer.lane_named.Given as goal

abbrev pub invariant-loop-number : goal.invariant-loop-number
invariant-loop-number l =
    named_from l.name l.number (drop l.number l.plan.lanes) ≡ named_from l.name 0 l.plan.lanes
