use Rattle.std.proofs.Common.{take}
use Rattle.std.specs.List.{flat_map}
use Rattle.cert_text.specs.Printed.{order_line}
use Rattle.cert_writer.specs.Sending.{IsSent}
use Rattle.cert_writer.proofs.writer.write_order.Given as goal

-- the lines of the items so far
abbrev pub invariant-loop-i : goal.invariant-loop-i
invariant-loop-i g l =
    IsSent (g.S.Sink.state l.fn.out) (g.S.Sink.state l.out) l.fn.pending l.pending
    (flat_map (order_line l.accepted.plan) (take l.i l.order))
