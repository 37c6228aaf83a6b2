use Rattle.farm_laws.proofs.LawsOfPlans.{states_are_foreseen}
use Rattle.farm_laws.proofs.laws.states_are_foreseen.Goals as goal

pub returns : goal.returns
returns c = states_are_foreseen
