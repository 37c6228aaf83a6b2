use Rattle.std.proofs.Common.{◌+◌, ◌||◌, sym, subst, arith}
use Rattle.std.specs.List.{list_any}
use Rattle.std.proofs.Math.Bool.{or-false}
use Rattle.farm_model.specs.Packages.{initial}
use Rattle.plan_model.specs.Common.{gives, Lane}
use Rattle.sat_rows.specs.Rows.{IsRowOf}
use Rattle.known_rows.proofs.ArchiveRows.{row_same}
use Rattle.plan_verifier.proofs.Reach.{with_lane, without_own, all_lanes, so_far}
use Rattle.plan_verifier.proofs.possible.possible_row.Goals as goal
use Rattle.plan_verifier.proofs.possible.possible_row.Goals.{then-other-number+in_ok-add_lane, else-other-number}

pub loop-other-init : goal.loop-other-init
loop-other-init c =
    row_same c.args.universe.now (initial c.args.universe.now) _ c.in_ok-row.row
    (λ v. sym (or-false (initial c.args.universe.now v))) c.in_ok-row.ensures

pub loop-other-preserved : goal.loop-other-preserved
loop-other-preserved c =
    let u = c.args.universe.now in
    let p = c.args.plan.now.lanes in
    let l = c.args.number in
    let n = c.loop-other.other in
    elim c.if-other-number.branch [
      | then-other-number+in_ok-add_lane w ↦
          subst (IsRowOf u (so_far u p l (n + 1))) (sym w.row-is)
          (with_lane u p l n w.add_lane.new.row w.if-other-number.true
          (subst (λ (of : Lane). IsRowOf u
          (λ v. so_far u p l n v || list_any (gives u v) of.instructions) w.add_lane.new.row)
          w.lane.ensures
          (w.in_ok-add_lane.ensures.added (so_far u p l n) c.loop-other.invariant)))
      | else-other-number w ↦
          subst (IsRowOf u (so_far u p l (n + 1))) (sym w.row-is)
          (without_own u p l n c.loop-other.row w.if-other-number.false c.loop-other.invariant)
    ]

pub returns : goal.returns
returns c =
    all_lanes c.args.universe.now c.args.plan.now.lanes c.args.number c.loop-other.other
    c.loop-other.row (omega (arith, c.lanes-other-end.ensures.lanes)) c.loop-other.invariant
