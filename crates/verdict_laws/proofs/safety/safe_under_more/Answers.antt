use Rattle.verdict_laws.proofs.MoreSafe.{safe_under_more as law}
use Rattle.verdict_laws.proofs.safety.safe_under_more.Goals as goal

pub returns : goal.returns
returns c = law
