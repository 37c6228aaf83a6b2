use Rattle.plan_verifier.specs.Accepted.{known_rows}
use Rattle.cert_writer.specs.Carried.{CarriesKnown}
use Rattle.cert_writer.specs.Sending.{IsSent}
use Rattle.cert_writer.proofs.Places.{text_to}
use Rattle.cert_writer.proofs.writer.write_lane.Given as goal

-- the lines behind the instructions so far
abbrev pub invariant-loop-place : goal.invariant-loop-place
invariant-loop-place g l =
    record {
      sent : IsSent (g.S.Sink.state l.fn.out) (g.S.Sink.state l.out) l.fn.pending l.pending
          (text_to l.accepted.universe l.accepted.plan (known_rows l.accepted) l.number l.place);
      carried : CarriesKnown l.accepted l.number l.carried;
    }
