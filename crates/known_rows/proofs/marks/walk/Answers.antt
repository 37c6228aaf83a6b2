use Rattle.std.proofs.Common.{◌≡◌, suc, length, arith}
use Rattle.plan_model.specs.Plan.{lane}
use Rattle.known_rows.specs.declared.marks.LaneOutputs.{LaneOutputs}
use Rattle.known_rows.specs.Marks.{outputs_with_points, ArePast}
use Rattle.known_rows.proofs.PastLaws.{each_next}
use Rattle.known_rows.proofs.marks.walk.Goals as goal

pub loop-number-preserved : goal.loop-number-preserved
loop-number-preserved c =
    let u = c.args.universe.now in
    let p = c.args.plan.now.lanes in
    let so_far = c.loop-number.invariant in
    let lanes = c.loop-number.lanes.items in
    let more = c.push.new.self.items in
    let of = c.in_ok-walk_lane.field-0 in
    record {
      marks = c.in_ok-walk_lane.ensures.marks;
      long = omega (arith, c.in_ok-push.ensures.len, so_far.long);
      each = each_next
          (λ k (w : LaneOutputs). w.outputs.items ≡ outputs_with_points u p k
          (length (lane p k).instructions))
          lanes more c.loop-number.number of c.in_ok-push.ensures.items so_far.long so_far.each
          c.in_ok-walk_lane.ensures.outputs;
      past = each_next
          (λ k (w : LaneOutputs). ArePast u p k (suc (length (lane p k).instructions)) w.past.items)
          lanes more c.loop-number.number of c.in_ok-push.ensures.items so_far.long so_far.past
          c.in_ok-walk_lane.ensures.past;
    }
