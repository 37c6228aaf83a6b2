use Rattle.std.proofs.Common.{◌≡◌, Some, slice_index, ap, sym, subst, ◌∙◌, arith}
use Rattle.plan_model.specs.Common.{row_before, instruction_at}
use Rattle.verdict_laws.proofs.RowBefore.{row_before-le}
use Rattle.known_rows.proofs.ReadAt.{read_at}
use Rattle.std.proofs.lemmas.List.{get_or_default}
use Rattle.plan_cert.specs.Opens.{open_behind, place_before}
use Rattle.plan_cert.specs.PlaceRows.{IsRowAt}
use Rattle.plan_cert.proofs.HeldLaws.{before-is, open-next}
use Rattle.plan_cert.proofs.PlaceLaws.{empty-new, extended_push, extended_twice, numbers_next}
use Rattle.plan_cert.specs.Stated.{listed_rows}
use Rattle.plan_cert.proofs.stated.lane_places.Goals as goal

pub add_row-requires-clause-at : goal.add_row-requires-clause-at
add_row-requires-clause-at c =
    read_at c.args.stating.plan.now.lanes c.args.number c.instructions-instructions.result.now
    c.loop-place.place c.index-instructions-place.result
    (c.instructions-instructions.ensures ∙ ap (λ of. of.instructions) c.lane.ensures)
    c.loop-place-test.true c.index-instructions-place.is

pub index-before-requires : goal.index-before-requires
index-before-requires c =
    let p = c.args.stating.plan.now.lanes in
    let l = c.args.number in
    let i = c.loop-place.place in
    let x = c.index-instructions-place.result in
    let place : c.place_before.result ≡ row_before p l i x =
    c.place_before.ensures ∙ ap (λ o. place_before i o x) c.loop-place.invariant.when_is
    ∙ before-is p l i x in
    let le = row_before-le p l i x in
    omega (arith, place, le, c.loop-place.invariant.numbers.long)

pub add_row-requires-clause-before : goal.add_row-requires-clause-before
add_row-requires-clause-before c =
    let u = c.args.stating.universe.now in
    let p = c.args.stating.plan.now.lanes in
    let l = c.args.number in
    let known = listed_rows p c.args.stating.certificate.now l in
    let i = c.loop-place.place in
    let x = c.index-instructions-place.result in
    let place : c.place_before.result ≡ row_before p l i x =
    c.place_before.ensures ∙ ap (λ o. place_before i o x) c.loop-place.invariant.when_is
    ∙ before-is p l i x in
    let le = row_before-le p l i x in
    let number : c.index-before.result.now
    ≡ slice_index c.loop-place.numbers.items c.place_before.result =
    c.index-before.ensures
    ∙ get_or_default c.loop-place.numbers.items c.place_before.result c.index-before.result.now 0
    (omega (arith, place, le, c.loop-place.invariant.numbers.long)) in
    subst (IsRowAt u (known (row_before p l i x)) c.loop-place.rows.items) (sym number)
    (subst (λ k. IsRowAt u (known k) c.loop-place.rows.items
    (slice_index c.loop-place.numbers.items c.place_before.result)) place
    (c.loop-place.invariant.numbers.each c.place_before.result (omega (arith, place, le))))

pub loop-place-preserved : goal.loop-place-preserved
loop-place-preserved c =
    let u = c.args.stating.universe.now in
    let p = c.args.stating.plan.now.lanes in
    let l = c.args.number in
    let known = listed_rows p c.args.stating.certificate.now l in
    let i = c.loop-place.place in
    let x = c.index-instructions-place.result in
    let here : instruction_at p l i ≡ Some x =
    read_at p l c.instructions-instructions.result.now i x
    (c.instructions-instructions.ensures ∙ ap (λ of. of.instructions) c.lane.ensures)
    c.loop-place-test.true c.index-instructions-place.is in
    record {
      used = c.in_ok-next.ensures.used;
      more = extended_twice u c.push.new.self.items c.loop-place.rows.items
          c.add_row.new.rows.items c.loop-place.invariant.more c.in_ok-next.ensures.more;
      when_is = c.open_behind-when.ensures
          ∙ ap (λ o. open_behind i o x) c.loop-place.invariant.when_is
          ∙ sym (open-next p l i x here);
      numbers = numbers_next u known i c.loop-place.numbers.items
          c.push-in-loop-place.new.self.items c.loop-place.rows.items c.add_row.new.rows.items
          c.in_ok-next.next.1 c.in_ok-push-3.ensures.items c.loop-place.invariant.numbers
          c.in_ok-next.ensures.more c.in_ok-next.ensures.row;
    }

pub returns-clause-more : goal.returns-clause-more
returns-clause-more c =
    let u = c.args.stating.universe.now in
    extended_twice u c.args.rows.now.items c.push.new.self.items c.loop-place.rows.items
    (extended_push u c.args.rows.now.items c.push.new.self.items c.in_ok-new.field-0
    c.in_ok-push.ensures.items
    (empty-new u c.in_ok-new.field-0 (c.in_ok-new.ensures.len ∙ c.names.ensures.number)
    c.in_ok-new.ensures.set))
    c.loop-place.invariant.more
