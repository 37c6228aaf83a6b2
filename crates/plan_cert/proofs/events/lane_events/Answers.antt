use Rattle.std.proofs.Common.{◌≡◌, ◌++◌, Some, map, All, sym, ap, subst, ◌∙◌}
use Rattle.plan_model.specs.Common.{items_of, lane, instruction_at}
use Rattle.known_rows.proofs.ReadAt.{read_at}
use Rattle.std.proofs.lemmas.List.Elements.{All-nil}
use Rattle.plan_cert.specs.Events.{order_item_of, IsEvent}
use Rattle.plan_cert.proofs.EventLaws.{items-next, items-start}
use Rattle.plan_cert.proofs.events.lane_events.Goals as goal

pub push_events-requires-clause-at : goal.push_events-requires-clause-at
push_events-requires-clause-at c =
    read_at c.args.plan.now.lanes c.args.number c.instructions-instructions.result.now
    c.loop-place.place c.index-instructions-place.result
    (c.instructions-instructions.ensures ∙ ap (λ of. of.instructions) c.lane.ensures)
    c.loop-place-test.true c.index-instructions-place.is

pub loop-place-preserved : goal.loop-place-preserved
loop-place-preserved c =
    let u = c.args.universe.now in
    let p = c.args.plan.now.lanes in
    let l = c.args.number in
    let i = c.loop-place.place in
    let at : instruction_at p l i ≡ Some c.index-instructions-place.result =
    read_at p l c.instructions-instructions.result.now i c.index-instructions-place.result
    (c.instructions-instructions.ensures ∙ ap (λ of. of.instructions) c.lane.ensures)
    c.loop-place-test.true c.index-instructions-place.is in
    record {
      each = c.in_ok-push_events.ensures.each;
      items = c.in_ok-push_events.ensures.items
          ∙ ap (λ xs. xs ++ items_of u c.index-instructions-place.result)
          c.loop-place.invariant.items
          ∙ sym (items-next u (lane p l).instructions i c.index-instructions-place.result at);
    }

pub loop-place-init : goal.loop-place-init
loop-place-init c =
    let u = c.args.universe.now in
    let p = c.args.plan.now.lanes in
    let l = c.args.number in
    record {
      each = subst (All (IsEvent u p l)) (sym c.new-events.ensures.items) (All-nil (IsEvent u p l));
      items = ap (map (order_item_of p l)) c.new-events.ensures.items
          ∙ items-start u (lane p l).instructions;
    }
