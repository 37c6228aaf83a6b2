use Rattle.std.specs.List.{flat_map, range_with_len}
use Rattle.plan_verifier.specs.Accepted.{known_rows}
use Rattle.cert_writer.specs.Carried.{IsReadyForRow}
use Rattle.cert_writer.specs.Lines.{lane_text}
use Rattle.cert_writer.specs.Sending.{IsSent}
use Rattle.cert_writer.proofs.writer.write_lanes.Given as goal

-- the lines of the lanes so far
abbrev pub invariant-loop-number : goal.invariant-loop-number
invariant-loop-number g l =
    record {
      sent : IsSent (g.S.Sink.state l.fn.out) (g.S.Sink.state l.out) l.fn.pending l.pending
          (flat_map (lane_text l.accepted.universe l.accepted.plan (known_rows l.accepted))
          (range_with_len 0 l.number));
      ready : IsReadyForRow l.accepted.universe l.carried;
    }
