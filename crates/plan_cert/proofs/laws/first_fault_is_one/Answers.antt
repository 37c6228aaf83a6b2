use Rattle.plan_cert.proofs.FaultLaws.{first_fault_is_one as law}
use Rattle.plan_cert.proofs.laws.first_fault_is_one.Goals as goal

pub returns : goal.returns
returns c = law
