use Rattle.std.proofs.Common.{◌≡◌, drop}
use Rattle.deb_text.specs.Steps.{traverse, with_front}
use Rattle.cert_text.specs.CertText.{order_at}
use Rattle.cert_text.proofs.reader.read_items.Given as goal

abbrev pub invariant-loop-i : goal.invariant-loop-i
invariant-loop-i l =
    with_front l.order.items (traverse (order_at l.plan.lanes) (drop l.i l.lines))
    ≡ traverse (order_at l.plan.lanes) (drop l.start l.lines)
