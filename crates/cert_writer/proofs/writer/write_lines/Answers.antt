use Rattle.std.proofs.Common.{List, [], ℕ, length, subst}
use Rattle.std.specs.List.{flat_map, range_with_len}
use Rattle.std.proofs.lemmas.List.{append-nil}
use Rattle.std.proofs.lemmas.Result.{err_from_is_err_and}
use Rattle.cert_text.specs.Printed.{order_line}
use Rattle.plan_verifier.specs.Accepted.{known_rows}
use Rattle.cert_writer.proofs.SendingLaws.{sent_twice, sent_on, stopped_behind, stopped_more}
use Rattle.cert_writer.proofs.writer.write_lines.Goals as goal
use Rattle.cert_writer.specs.Lines.{lane_text, all_lines}
use Rattle.cert_writer.specs.Sending.{IsSentOn}

pub returns-in_err-write_lanes-clause-sent : goal.returns-in_err-write_lanes-clause-sent
returns-in_err-write_lanes-clause-sent g c =
    let a = c.args.accepted.now in
    let e = err_from_is_err_and c.from_residual.result c.from_residual.ensures.1 in
    rw (e.1, e.2)
    (stopped_more (g.S.Sink.state c.args.out.now) (g.S.Sink.state c.write_lanes.new.out)
    c.args.pending.now
    (flat_map (lane_text a.universe a.plan (known_rows a)) (range_with_len 0 (length a.plan)))
    (flat_map (order_line a.plan) a.order) _ c.in_err-write_lanes.ensures)

pub returns-in_err-write_order-clause-sent : goal.returns-in_err-write_order-clause-sent
returns-in_err-write_order-clause-sent g c =
    let a = c.args.accepted.now in
    let e = err_from_is_err_and c.from_residual-in_err-write_order.result
    c.from_residual-in_err-write_order.ensures.1 in
    rw (e.1, e.2)
    (stopped_behind (g.S.Sink.state c.args.out.now) (g.S.Sink.state c.write_lanes.new.out)
    c.args.pending.now c.write_lanes.new.pending
    (flat_map (lane_text a.universe a.plan (known_rows a)) (range_with_len 0 (length a.plan)))
    (flat_map (order_line a.plan) a.order) c.in_ok-write_lanes.ensures
    (g.S.Sink.state c.write_order.new.out) _ c.in_err-write_order.ensures)

pub returns-clause-sent : goal.returns-clause-sent
returns-clause-sent g c =
    let a = c.args.accepted.now in
    let old = g.S.Sink.state c.args.out.now in
    let all = all_lines a.universe a.plan (known_rows a) a.order in
    subst (λ (text : List ℕ). IsSentOn old (g.S.Sink.state c.send.new.out) c.args.pending.now
    c.send.new.self text c.send.result) (append-nil all)
    (sent_on old (g.S.Sink.state c.write_order.new.out) c.args.pending.now c.write_order.new.pending
    all []
    (sent_twice old (g.S.Sink.state c.write_lanes.new.out) c.args.pending.now
    c.write_lanes.new.pending
    (flat_map (lane_text a.universe a.plan (known_rows a)) (range_with_len 0 (length a.plan)))
    (flat_map (order_line a.plan) a.order) c.in_ok-write_lanes.ensures
    (g.S.Sink.state c.write_order.new.out) c.write_order.new.pending c.in_ok-write_order.ensures)
    (g.S.Sink.state c.send.new.out) c.send.new.self c.send.result c.send.ensures.sent)
