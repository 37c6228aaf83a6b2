use Rattle.std.proofs.Common.{◌≡◌, ◌<◌, ◌+◌, ℕ, List, ◌∷◌, drop, length, sym, ap, ◌∙◌, arith}
use Rattle.std.proofs.lemmas.List.{at_drop_more, drop-drop, map_push}
use Rattle.std.proofs.lemmas.List.Sums.{sum_by-cons}
use Rattle.std.specs.Global.{Vec}
use Rattle.std.specs.List.{sum_by}
use Rattle.deb_text.specs.Lists.{lists}
use Rattle.plan_model.specs.Plan.{Lane, lane, no_lane}
use Rattle.cert_text.specs.Certificates.{count_rows}
use Rattle.cert_text.proofs.LineRows.{front-goes}
use Rattle.plan_reader.proofs.Counts.{lane-few}
use Rattle.cert_text.proofs.reader.read_lanes.Goals as goal

pub read_lane-requires-clause-few : goal.read_lane-requires-clause-few
read_lane-requires-clause-few c =
    rw c.lane.ensures
    (lane-few c.args.plan.now.lanes c.loop-number.number
    (omega (arith, c.lanes-number-end.ensures.lanes)) c.lanes-number-end.ensures.limits)

pub loop-number-preserved : goal.loop-number-preserved
loop-number-preserved c =
    let p = c.args.plan.now.lanes in
    let l = c.loop-number.number in
    let at = c.loop-number.at in
    let lines = c.args.source.lines.now in
    let lt : l < length p = omega (arith, c.lanes-number-end.ensures.lanes) in
    let cut : drop l p ≡ lane p l ∷ drop (l + 1) p =
    at_drop_more (λ (ls : List Lane). ls) p l no_lane lt in
    let long : c.len-at.result ≡ count_rows (lane p l) =
    omega (
      arith,
      c.len-at.ensures,
      c.in_ok-lane_rows.ensures.count,
      ap (λ (of : Lane). count_rows of) c.lane.ensures,
    ) in
    let next : drop (count_rows (lane p l)) (drop at lines) ≡ drop (at + c.len-at.result) lines =
    drop-drop (count_rows (lane p l)) at lines ∙ ap (λ n. drop (at + n) lines) (sym long) in
    record {
      so_far = rw (
        c.in_ok-push.ensures.items,
        map_push (λ (v : Vec (List ℕ)). v.items) c.loop-number.rows.items
            c.in_ok-lane_rows.lane_rows,
        ← next,
      ) (front-goes (lists c.loop-number.rows.items) _ _ _
          (rw cut at c.loop-number.invariant.so_far) _
          (rw c.lane.ensures at c.in_ok-lane_rows.ensures.rows));
      behind =
          let step = ap (sum_by count_rows) cut
          ∙ sum_by-cons count_rows (lane p l) (drop (l + 1) p) in
          omega (arith, step, long, c.loop-number.invariant.behind);
      there =
          let last = rw c.lane.ensures at c.in_ok-lane_rows.ensures.there in
          omega (arith, long, last);
    }
