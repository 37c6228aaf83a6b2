use Rattle.verdict_laws.proofs.FirstOne.{safe_or_first_unsafe as law}
use Rattle.verdict_laws.proofs.safety.safe_or_first_unsafe.Goals as goal

pub returns : goal.returns
returns c = law
