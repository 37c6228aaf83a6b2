use Rattle.std.proofs.Common.{◌≡◌, ℕ, List, length, sym, ap, subst}
use Rattle.farm_model.specs.Universe.{Universe}
use Rattle.plan_reader.specs.CountedPlan.{CountedPlan}
use Rattle.plan_model.specs.Plan.{Plan}
use Rattle.known_rows.specs.declared.by_name.OutputPlace.{OutputPlace}
use Rattle.known_rows.specs.declared.marks.LaneOutputs.{LaneOutputs}
use Rattle.known_rows.specs.ByName.{AreKnownLanes, AreListedByName}
use Rattle.known_rows.specs.Marks.{AreLanes}
use Rattle.known_rows.specs.Outputs.{AreOutputsOfPlan}
use Rattle.known_rows.proofs.HitLaws.{lanes_known}
use Rattle.known_rows.proofs.outputs.Outputs.of_lanes.Goals as goal

pub invariant_of-known : goal.invariant_of-known
invariant_of-known c =
    record {
      sound = c.requires.sound.universe;
      known = subst (AreKnownLanes c.args.universe.now) (sym c.deref.ensures.value)
          (lanes_known c.args.universe.now c.args.plan.now.lanes c.args.lanes.items c.requires.lanes
          c.requires.sound.universe);
    }

-- the universe and the plan are kept as they were
about : (u w : Universe) (p q : Plan) (lanes : List LaneOutputs) (lists : List (List OutputPlace))
    (totals : List (List ℕ)) → w ≡ u → q ≡ p → AreOutputsOfPlan u p lanes lists totals
    → AreOutputsOfPlan w q lanes lists totals
about u w p q lanes lists totals same same_plan are =
    subst (λ v. AreOutputsOfPlan v q lanes lists totals) (sym same)
    (subst (λ r. AreOutputsOfPlan u r lanes lists totals) (sym same_plan) are)

pub invariant_of-result : goal.invariant_of-result
invariant_of-result c =
    let u = c.args.universe.now in
    let p = c.args.plan.now.lanes in
    about u c.of-2.result.value p c.of-3.result.value.lanes c.args.lanes.items
    c.in_ok-by_name.by_name c.in_ok-totals.totals.items c.of-2.ensures
    (ap (λ (q : CountedPlan). q.lanes) c.of-3.ensures)
    (record {
      sound = c.requires.sound;
      are = c.requires.lanes;
      past = c.requires.past;
      named = c.in_ok-by_name.ensures.long;
      listed = subst
          (λ (lanes : List LaneOutputs). AreListedByName c.in_ok-by_name.by_name lanes
          (length lanes))
          c.deref.ensures.value c.in_ok-by_name.ensures.listed;
      in_all = c.in_ok-totals.ensures u p
          (subst (AreLanes u p) (sym c.deref-2.ensures.value) c.requires.lanes);
    })
