use Rattle.farm_laws.proofs.LawsOfPlans.{schedules_meet_no_trap}
use Rattle.farm_laws.proofs.laws.schedules_meet_no_trap.Goals as goal

pub returns : goal.returns
returns c = schedules_meet_no_trap
