use Rattle.verdict_laws.proofs.FirstOne.{first_unsafe_is_one as law}
use Rattle.verdict_laws.proofs.safety.first_unsafe_is_one.Goals as goal

pub returns : goal.returns
returns c = law
