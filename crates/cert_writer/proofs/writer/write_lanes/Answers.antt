use Rattle.std.proofs.Common.{◌≡◌, length, ap, subst, arith}
use Rattle.std.specs.List.{flat_map, range_with_len}
use Rattle.std.proofs.lemmas.Result.{err_from_is_err_and}
use Rattle.plan_model.specs.Plan.{Plan}
use Rattle.plan_verifier.specs.Accepted.{known_rows}
use Rattle.cert_writer.proofs.SendingLaws.{none_sent, next_number, stopped_number}
use Rattle.cert_writer.proofs.writer.write_lanes.Goals as goal
use Rattle.cert_writer.specs.Lines.{lane_text}
use Rattle.cert_writer.specs.Sending.{IsSent}

pub loop-number-init : goal.loop-number-init
loop-number-init g c = record {
  sent = none_sent (g.S.Sink.state c.args.out.now) c.args.pending.now c.requires.going;
  ready = c.requires.ready;
}

pub loop-number-preserved : goal.loop-number-preserved
loop-number-preserved g c =
    let a = c.args.accepted.now in
    record {
      sent = next_number (lane_text a.universe a.plan (known_rows a)) c.loop-number.number
          (g.S.Sink.state c.args.out.now) (g.S.Sink.state c.loop-number.out)
          (g.S.Sink.state c.write_lane.new.out) c.args.pending.now c.loop-number.pending
          c.loop-number.invariant.sent c.write_lane.new.pending c.in_ok-write_lane.ensures.sent;
      ready = c.in_ok-write_lane.ensures.ready;
    }

pub returns-in_err-write_lane : goal.returns-in_err-write_lane
returns-in_err-write_lane g c =
    let a = c.args.accepted.now in
    let e = err_from_is_err_and c.from_residual.result c.from_residual.ensures.1 in
    let long = ap (λ (p : Plan). length p) c.plan.ensures.lanes in
    rw (e.1, e.2)
    (stopped_number (lane_text a.universe a.plan (known_rows a)) c.loop-number.number
    (g.S.Sink.state c.args.out.now) (g.S.Sink.state c.loop-number.out)
    (g.S.Sink.state c.write_lane.new.out) c.args.pending.now c.loop-number.pending
    c.loop-number.invariant.sent (length a.plan) _
    (omega (arith, c.loop-number-test.true, c.lanes-number-end.ensures.lanes, long))
    c.in_err-write_lane.ensures.sent)

pub returns : goal.returns
returns g c =
    let a = c.args.accepted.now in
    let long = ap (λ (p : Plan). length p) c.plan.ensures.lanes in
    let all : c.loop-number.number ≡ length a.plan =
    omega (
      arith,
      c.loop-number-test.false,
      c.loop-number.auto.number-end,
      c.lanes-number-end.ensures.lanes,
      long,
    ) in
    subst (λ n. IsSent (g.S.Sink.state c.args.out.now) (g.S.Sink.state c.loop-number.out)
    c.args.pending.now c.loop-number.pending
    (flat_map (lane_text a.universe a.plan (known_rows a)) (range_with_len 0 n)))
    all c.loop-number.invariant.sent
