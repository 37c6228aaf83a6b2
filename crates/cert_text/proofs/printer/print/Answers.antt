use Rattle.std.proofs.Common.{arith}
use Rattle.plan_reader.proofs.Counts.{lane-few}
use Rattle.cert_text.proofs.printer.print.Goals as goal

pub push_lane-requires-clause-few : goal.push_lane-requires-clause-few
push_lane-requires-clause-few c =
    rw c.lane.ensures
    (lane-few c.args.plan.now.lanes c.loop-number.number
    (omega (arith, c.lanes-number-end.ensures.lanes)) c.lanes-number-end.ensures.limits)
