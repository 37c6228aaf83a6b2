-- What an accepted plan promises, by the laws of annotated plans.
use Rattle.std.proofs.Common.{ℕ, ◌<◌, ◌≤◌, [], length, refl}
use Rattle.farm_laws.proofs.LawsOfPlans.{every_interleaving, states_are_foreseen, lanes_are_within_budget, schedules_meet_no_trap}
use Rattle.plan_model.specs.Common.{PlaysSafely, lane_cost, lane, IsSafe, start, IsAnnotation}
use Rattle.plan_verifier.specs.Accepted.{AcceptedPlan, known_rows, IsAccepted, StaysForeseen}

module _ (a : AcceptedPlan) (is : IsAccepted a) where
  -- it is annotated
  pub annotation : IsAnnotation a.universe a.plan (known_rows a)
  annotation = record { keeps = is.known.keeps; safe = is.safe }

  pub safe_of : IsSafe a.universe a.plan
  safe_of = every_interleaving a.universe a.plan (known_rows a) a.order is.sound annotation is.order

  pub stays_foreseen : StaysForeseen a
  stays_foreseen = record {
    facts = states_are_foreseen a.universe a.plan (known_rows a) is.sound annotation;
    spent = lanes_are_within_budget a.universe a.plan (known_rows a) is.sound annotation;
  }

  pub plays_safely : PlaysSafely a.universe a.plan
  plays_safely = schedules_meet_no_trap a.universe a.plan (known_rows a) is.sound annotation

  pub cost_within : (l : ℕ) → l < length a.plan
      → lane_cost a.universe a.plan (known_rows a) l ≤ (lane a.plan l).budget
  cost_within l lt =
      (lanes_are_within_budget a.universe a.plan (known_rows a) is.sound annotation
      (start a.universe a.plan) ([], refl)).cost l lt
