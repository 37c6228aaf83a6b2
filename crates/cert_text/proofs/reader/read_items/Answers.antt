use Rattle.std.proofs.Common.{◌<◌, length, [], arith}
use Rattle.std.proofs.lemmas.List.{at_drop_more, drop_all}
use Rattle.std.proofs.lemmas.Result.{err_from_is_err_and}
use Rattle.deb_text.proofs.StepLaws.{traverse-goes, traverse-stops, traverse-ends}
use Rattle.deb_text.specs.Lines.{Line}
use Rattle.std.proofs.Common.{List}
use Rattle.cert_text.specs.CertText.{order_at}
use Rattle.cert_text.specs.Faults.{refusal_of}
use Rattle.cert_text.proofs.reader.read_items.Goals as goal

pub returns-in_err-read_item : goal.returns-in_err-read_item
returns-in_err-read_item c =
    let p = err_from_is_err_and c.from_residual.result c.from_residual.ensures.1 in
    let lt : c.loop-i.i < length c.args.lines.now = omega (arith, c.count-i-end.ensures) in
    rw (p.1, p.2)
    (traverse-stops (order_at c.args.plan.now.lanes) refusal_of _ _ _ _ _ _
    (at_drop_more (λ (ls : List Line). ls) c.args.lines.now c.loop-i.i (0, []) lt)
    (rw (c.number.ensures, c.line.ensures) at c.in_err-read_item.ensures) c.loop-i.invariant)

pub loop-i-preserved : goal.loop-i-preserved
loop-i-preserved c =
    let lt : c.loop-i.i < length c.args.lines.now = omega (arith, c.count-i-end.ensures) in
    rw c.in_ok-push.ensures.items
    (traverse-goes (order_at c.args.plan.now.lanes) _ _ _ _ _ _
    (at_drop_more (λ (ls : List Line). ls) c.args.lines.now c.loop-i.i (0, []) lt)
    (rw (c.number.ensures, c.line.ensures) at c.in_ok-read_item.ensures) c.loop-i.invariant)

pub returns : goal.returns
returns c =
    traverse-ends (order_at c.args.plan.now.lanes) _ _ _
    (drop_all c.loop-i.i c.args.lines.now (omega (arith, c.count-i-end.ensures)))
    c.loop-i.invariant
