use Rattle.std.proofs.Common.{◌<◌, length, All}
use Rattle.plan_model.specs.Plan.{lane}
use Rattle.plan_cert.specs.Origins.{HasPublishes}
use Rattle.plan_cert.proofs.origins.lane_publishes.Given as goal

abbrev pub invariant-loop-place : goal.invariant-loop-place
invariant-loop-place l = record {
  inside : All (λ i. i < length (lane l.plan.lanes l.number).instructions) l.places.items;
  has : HasPublishes l.plan.lanes l.number l.place l.places.items;
}
