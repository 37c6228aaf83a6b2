-- What the verdict on a plan is asked of. The project's own words.
--
--   ExaminedPlan     a universe, a plan over it, the lines of its text, and what its lanes know
--   IsExamined       what is kept of it
--   knowledge_of     what its lanes know, as sets
--   accepted_with    the accepted plan that it is, with an order and costs
--   IsGrounds        what an acceptance rests on
use Rattle.std.specs.Prelude.{◌≡◌, ℕ, List}
use Rattle.farm_model.specs.Universe.{Universe}
use Rattle.plan_reader.specs.PlanLines.{PlanLines}
use Rattle.plan_model.specs.Common.{IsGreatest, Plan, IsSound}
use Rattle.known_rows.specs.KnownRows.{KnownRows, Knowledge, rows_of}
use Rattle.plan_verifier.specs.declared.examined.Grounds.{Grounds}
use Rattle.plan_verifier.specs.Accepted.{AcceptedPlan, IsAccepted}

pub record ExaminedPlan : Type 0 where
  pub universe : Universe
  pub plan : Plan
  pub lines : PlanLines
  pub known : KnownRows

-- the universe and the plan are what the readers make, and what is known is about them and the
-- greatest that keeps to the inclusions
pub record IsExamined (e : ExaminedPlan) : Type 0 where
  pub sound : IsSound e.universe e.plan
  pub about : (e.known.universe ≡ e.universe) × (e.known.plan ≡ e.plan)
  pub known : IsGreatest e.universe e.plan (rows_of e.known)

abbrev pub knowledge_of : KnownRows → Knowledge
knowledge_of known = record {
  universe = known.universe;
  plan = known.plan;
  rows = rows_of known;
}

abbrev pub accepted_with : ExaminedPlan → (order costs : List ℕ) → AcceptedPlan
accepted_with e order costs = record {
  universe = e.universe;
  plan = e.plan;
  known = e.known;
  order = order;
  costs = costs;
}

-- with this order and these costs the plan is accepted
abbrev pub IsGrounds : ExaminedPlan → Grounds → Type 0
IsGrounds e grounds = IsAccepted (accepted_with e grounds.order.items grounds.costs.items)
