use Rattle.std.proofs.Common.{◌≡◌, ◌≤◌, ◌+◌, ◌*◌, ◌^◌, drop}
use Rattle.std.specs.List.{sum_by}
use Rattle.plan_model.specs.Plan.{Lane, ways}
use Rattle.plan_reader.proofs.events.count_events.Given as goal

abbrev pub invariant-loop-lane : goal.invariant-loop-lane
invariant-loop-lane l = record {
  so_far : l.events
      + sum_by (λ (of : Lane). (ways l.universe of.instructions).here) (drop l.lane-index l.lanes)
      ≡ sum_by (λ (of : Lane). (ways l.universe of.instructions).here) l.lanes;
  few : l.events ≤ l.lane-index * 65536 * 2 ^ 32;
}
