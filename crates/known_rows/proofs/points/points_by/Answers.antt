use Rattle.std.proofs.Common.{◌+◌, ◌≤◌, ◌∷◌, [], length, get_or, None, sym, ap, subst, ◌∙◌, arith}
use Rattle.std.proofs.lemmas.List.{length-append}
use Rattle.std.proofs.lemmas.Option.{slice_get-get_or, slice_get_within}
use Rattle.known_rows.specs.declared.marks.Mark.{Mark}
use Rattle.known_rows.specs.Hits.{HasPointOf}
use Rattle.known_rows.proofs.PointLaws.{mark_facts, points_next, points_are}
use Rattle.known_rows.proofs.points.points_by.Goals as goal

none : Mark
none = record { lane = 0; place = 0; own = 0; before = None }

pub point_of-requires-clause-mark : goal.point_of-requires-clause-mark
unfolding none
point_of-requires-clause-mark c =
    let facts = mark_facts c.args.supply.universe.now c.args.supply.plan.now.lanes c.args.marks.now
    c.loop-w.w none c.requires.marks c.loop-w-test.true in
    record { lane_there = facts.1; place_there = facts.2; own_is = facts.0 }

pub point_of-requires-clause-sources : goal.point_of-requires-clause-sources
unfolding none
point_of-requires-clause-sources c =
    c.requires.sources.each c.loop-w.w (get_or c.args.marks.now c.loop-w.w none)
    (slice_get-get_or c.args.marks.now c.loop-w.w none c.loop-w-test.true)

pub loop-w-preserved : goal.loop-w-preserved
loop-w-preserved c =
    let u = c.args.supply.universe.now in
    let p = c.args.supply.plan.now.lanes in
    let marks = c.args.marks.now in
    let w = c.loop-w.w in
    let items = c.in_ok-push.ensures.items in
    let at = slice_get-get_or marks w (record { lane = 0; place = 0; own = 0; before = None })
    c.loop-w-test.true in
    record {
      long = ap length items ∙ length-append c.loop-w.points.items (c.in_ok-point_of.field-0 ∷ [])
          ∙ ap (λ n. n + 1) c.loop-w.invariant.long;
      have =
          λ k m lt at_k. subst (λ ps. HasPointOf u p ps k m) (sym items)
          (points_next u p marks c.loop-w.points.items w
          (get_or marks w (record { lane = 0; place = 0; own = 0; before = None }))
          c.in_ok-point_of.field-0 c.loop-w.invariant.long c.loop-w.invariant.have at
          c.in_ok-point_of.ensures k m lt at_k);
    }

pub returns : goal.returns
returns c =
    let marks = c.args.marks.now in
    let end : length marks ≤ c.loop-w.w = c.loop-w-test.false in
    let last : c.loop-w.w ≤ length marks = c.loop-w.auto.w-end in
    points_are c.args.supply.universe.now c.args.supply.plan.now.lanes marks c.loop-w.points.items
    c.requires.marks
    (omega (arith, c.loop-w.invariant.long, end, last))
    (λ k m at. c.loop-w.invariant.have k m
    (omega (arith, slice_get_within marks k m at, end)) at)
