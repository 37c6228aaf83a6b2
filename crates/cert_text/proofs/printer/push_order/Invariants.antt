use Rattle.std.proofs.Common.{◌≡◌, ◌++◌, drop}
use Rattle.std.specs.List.{flat_map}
use Rattle.cert_text.specs.Printed.{order_line}
use Rattle.cert_text.proofs.printer.push_order.Given as goal

abbrev pub invariant-loop-i : goal.invariant-loop-i
invariant-loop-i l =
    l.text.items ++ flat_map (order_line l.plan.lanes) (drop l.i l.order)
    ≡ l.fn.text.items ++ flat_map (order_line l.plan.lanes) l.order
