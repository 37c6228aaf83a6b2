use Rattle.farm_laws.proofs.LawsOfPlans.{lanes_are_within_budget}
use Rattle.farm_laws.proofs.laws.lanes_are_within_budget.Goals as goal

pub returns : goal.returns
returns c = lanes_are_within_budget
