use Rattle.std.proofs.Common.{◌≡◌, true}
use Rattle.farm_model.specs.Below.{every_below}
use Rattle.explain_reasons.specs.Cost.{has_cost, spent_at}
use Rattle.explain_reasons.proofs.cost.lane_cost.Given as goal

abbrev pub invariant-loop-place : goal.invariant-loop-place
invariant-loop-place g l =
    let u = l.stage.universe.now in
    let p = l.stage.plan.now.lanes in
    let rows = (g.K.KnownWords.known l.stage.known.now).rows in
    record {
      spent : l.spent ≡ spent_at u p rows l.number l.place;
      known : every_below l.place (has_cost u p rows l.number) ≡ true;
    }
