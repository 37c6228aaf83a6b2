-- The line of a lane of an accepted plan.
use Rattle.std.proofs.Common.{◌≡◌, ℕ, List, refl}
use Rattle.plan_model.specs.Common.{lane_cost, Lane, lane}
use Rattle.plan_verifier.specs.Accepted.{AcceptedPlan, known_rows}
use Rattle.farm_report.specs.AnswerLines.{lane_cost_line}
use Rattle.farm_report.specs.VerdictText.{cost_line}

-- the line of this lane's name, cost and budget
pub line-is : (a : AcceptedPlan) (l : ℕ) (of : Lane) (name : List ℕ) (cost budget : ℕ)
    → of ≡ lane a.plan l → name ≡ of.name
    → cost ≡ lane_cost a.universe a.plan (known_rows a) l → budget ≡ of.budget
    → lane_cost_line name cost budget ≡ cost_line a l
line-is a l of name cost budget is n c b = rw (n, c, b, is) refl
