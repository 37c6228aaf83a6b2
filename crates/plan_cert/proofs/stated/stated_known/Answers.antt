use Rattle.std.proofs.Common.{◌<◌, ◌||◌, ap, subst, sym, ◌∙◌, arith}
use Rattle.bit_rows.specs.Sets.{variants_of}
use Rattle.farm_model.specs.Packages.{initial}
use Rattle.plan_cert.specs.PlaceRows.{PlaceRows, listed_at}
use Rattle.sat_rows.specs.Rows.{IsRowOf}
use Rattle.plan_cert.specs.Stated.{held_at, listed_rows}
use Rattle.plan_cert.proofs.StatedLaws.{lists-known, row-has}
use Rattle.plan_cert.proofs.StatedPlaces.{rows_next}
use Rattle.plan_cert.proofs.stated.stated_known.Goals as goal

pub loop-number-preserved : goal.loop-number-preserved
loop-number-preserved c =
    let u = c.args.universe.now in
    let p = c.args.plan.now.lanes in
    let known = listed_rows p c.args.certificate.now in
    record {
      places = rows_next u p known c.loop-number.number c.loop-number.places.items
          c.push.new.self.items c.loop-number.rows.items c.lane_places.new.rows.items
          c.in_ok-lane_places.field-0 c.in_ok-push.ensures.items c.loop-number.invariant.places
          c.in_ok-lane_places.ensures.more c.in_ok-lane_places.ensures.numbers;
      new = c.in_ok-lane_places.ensures.more.all_new c.loop-number.invariant.new;
    }

pub returns-clause-rows : goal.returns-clause-rows
returns-clause-rows c = λ l i v lt le.
    let u = c.args.universe.now in
    let p = c.args.plan.now.lanes in
    let cert = c.args.certificate.now in
    let known = listed_rows p cert in
    let below : l < c.loop-number.number =
    omega (arith, lt, c.lanes-number-end.ensures.lanes, c.loop-number-test.false) in
    let row : IsRowOf u (known l i) (listed_at c.new.result l i) =
    subst (λ k. IsRowOf u (known l i) (listed_at k l i)) (sym c.new.ensures)
    ((c.loop-number.invariant.places.each l below).each i le).row in
    ap (λ w. initial w v || variants_of (listed_at c.new.result l i) v.name v.bit)
    (ap (λ (k : PlaceRows). k.universe) c.new.ensures)
    ∙ ap (λ there. initial u v || there)
    (row-has u (known l i) (listed_at c.new.result l i) row
    (lists-known u p cert c.requires.certificate l (held_at p l i).here) v)
