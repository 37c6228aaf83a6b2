use Rattle.std.proofs.Common.{◌<◌, ℕ, List, All, length, take_all, subst, sym, ◌∙◌}
use Rattle.std.specs.List.{flat_map}
use Rattle.std.proofs.lemmas.Result.{err_from_is_err_and}
use Rattle.cert_text.specs.Printed.{order_line}
use Rattle.plan_cert.proofs.OrderLaws.{order-in-plan}
use Rattle.cert_writer.proofs.SendingLaws.{none_sent, next_item, stopped_item}
use Rattle.cert_writer.proofs.writer.write_order.Goals as goal
use Rattle.cert_writer.specs.Sending.{IsSent}

pub loop-i-init : goal.loop-i-init
loop-i-init g c = none_sent (g.S.Sink.state c.args.out.now) c.args.pending.now c.requires

pub write_item-requires : goal.write_item-requires
write_item-requires g c =
    let a = c.args.accepted.now in
    let all =
    subst (All (λ l. l < length a.plan)) (sym c.order-order.ensures)
    (order-in-plan a.universe a.plan a.order c.keeps.ensures.order) in
    record {
      going = c.loop-i.invariant.going;
      lane = all c.loop-i.i 0 c.loop-i-test.true;
    }

pub loop-i-preserved : goal.loop-i-preserved
loop-i-preserved g c =
    next_item (order_line c.args.accepted.now.plan) c.order-order.result.now c.loop-i.i 0
    c.loop-i-test.true (g.S.Sink.state c.args.out.now) (g.S.Sink.state c.loop-i.out)
    (g.S.Sink.state c.write_item.new.out) c.args.pending.now c.loop-i.pending c.loop-i.invariant
    c.write_item.new.pending c.in_ok-write_item.ensures

pub returns-in_err-write_item : goal.returns-in_err-write_item
returns-in_err-write_item g c =
    let e = err_from_is_err_and c.from_residual.result c.from_residual.ensures.1 in
    rw (e.1, e.2, ← c.order-order.ensures)
    (stopped_item (order_line c.args.accepted.now.plan) c.order-order.result.now c.loop-i.i 0
    c.loop-i-test.true (g.S.Sink.state c.args.out.now) (g.S.Sink.state c.loop-i.out)
    (g.S.Sink.state c.write_item.new.out) c.args.pending.now c.loop-i.pending c.loop-i.invariant _
    c.in_err-write_item.ensures)

pub returns : goal.returns
returns g c =
    let xs = c.order-order.result.now in
    subst (λ (ls : List ℕ). IsSent (g.S.Sink.state c.args.out.now) (g.S.Sink.state c.loop-i.out)
    c.args.pending.now c.loop-i.pending (flat_map (order_line c.args.accepted.now.plan) ls))
    (take_all c.loop-i.i xs c.loop-i-test.false ∙ c.order-order.ensures) c.loop-i.invariant
