use Rattle.std.proofs.Common.{◌≡◌, [], length, sym, ap, ◌∙◌}
use Rattle.std.proofs.lemmas.Bool.{eqb-true}
use Rattle.wait_order.proofs.Ends.{no_lanes, some_lanes, order_found, stuck_found}
use Rattle.wait_order.proofs.rounds.order.Goals as goal

pub returns-then-is_empty-clause-order : goal.returns-then-is_empty-clause-order
returns-then-is_empty-clause-order c =
    let none : c.in_ok-stuck.stuck.items ≡ [] =
    no_lanes c.in_ok-stuck.stuck.items (ap length (sym c.as_slice.ensures.value)
    ∙ eqb-true _ _ (sym c.is_empty.ensures ∙ c.if-is_empty.true)) in
    order_found c.args.universe.now c.args.plan.now.lanes c.in_ok-ats.field-0.order.items
    c.in_ok-ats.field-0.standings.items c.deref.result.now c.in_ok-ats.ensures.standing
    c.in_ok-ats.ensures.settled c.deref.ensures.value c.in_ok-stuck.stuck.items
    c.in_ok-stuck.ensures none

pub returns-clause-stuck : goal.returns-clause-stuck
returns-clause-stuck c =
    let some =
    some_lanes c.in_ok-stuck.stuck.items c.as_slice.result.now c.as_slice.ensures.value
    (sym c.is_empty.ensures ∙ c.if-is_empty.false) in (
      stuck_found c.args.universe.now c.args.plan.now.lanes c.in_ok-ats.field-0.order.items
          c.in_ok-ats.field-0.standings.items c.deref.result.now c.in_ok-ats.ensures.standing
          c.in_ok-ats.ensures.settled c.deref.ensures.value c.in_ok-stuck.stuck.items
          c.in_ok-stuck.ensures,
      some,
    )
