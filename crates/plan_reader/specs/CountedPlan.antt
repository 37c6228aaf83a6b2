-- A plan as a value of the program: its lanes, from which lines of its text they come, and how many
-- events it has.
use Rattle.std.specs.Prelude.{ℕ}
use Rattle.plan_reader.specs.PlanLines.{PlanLines}
use Rattle.plan_model.specs.Plan.{Plan}

pub record CountedPlan : Type 0 where
  pub lanes : Plan
  pub lines : PlanLines
  pub count : ℕ
