use Rattle.plan_cert.proofs.FaultLaws.{faults_refuse as law}
use Rattle.plan_cert.proofs.laws.faults_refuse.Goals as goal

pub returns : goal.returns
returns c = law
