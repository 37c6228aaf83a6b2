use Rattle.std.proofs.Common.{sym, subst}
use Rattle.known_rows.specs.Marks.{AreLanes}
use Rattle.known_rows.specs.Points.{ArePoints}
use Rattle.known_rows.proofs.Growing.{points_in}
use Rattle.known_rows.proofs.plan_rows.knowledge.Goals as goal

pub columns-requires-clause-placed : goal.columns-requires-clause-placed
columns-requires-clause-placed g c κs within =
    points_in c.args.universe.now c.args.plan.now.lanes c.requires.sound c.deref-3.result.now
    (subst (ArePoints c.args.universe.now c.args.plan.now.lanes) (sym c.deref-3.ensures.value)
    c.in_ok-points.ensures)

pub known_of-requires-clause-columns : goal.known_of-requires-clause-columns
known_of-requires-clause-columns g c =
    let u = c.args.universe.now in
    let p = c.args.plan.now.lanes in
    record {
      points = c.deref-3.result.now;
      are_points = subst (ArePoints u p) (sym c.deref-3.ensures.value) c.in_ok-points.ensures;
      are_columns = c.in_ok-columns.ensures u p
          (subst (AreLanes u p) (sym c.deref-2.ensures.value) c.in_ok-marks.ensures.lanes);
    }
