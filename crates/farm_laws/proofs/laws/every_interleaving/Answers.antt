use Rattle.farm_laws.proofs.LawsOfPlans.{every_interleaving}
use Rattle.farm_laws.proofs.laws.every_interleaving.Goals as goal

pub returns : goal.returns
returns c = every_interleaving
