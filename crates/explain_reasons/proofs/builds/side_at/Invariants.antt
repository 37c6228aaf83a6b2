use Rattle.std.proofs.Common.{◌≡◌}
use Rattle.plan_model.specs.Branches as branches
use Rattle.plan_model.specs.Plan.{lane}
use Rattle.explain_reasons.specs.Builder.{side_of}
use Rattle.explain_reasons.proofs.builds.side_at.Given as goal

abbrev pub invariant-loop-place : goal.invariant-loop-place
invariant-loop-place l =
    side_of l.side ≡ branches.side_at (lane l.plan.lanes l.number).instructions l.place
