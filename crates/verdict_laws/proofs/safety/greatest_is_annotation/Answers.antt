use Rattle.verdict_laws.proofs.MoreSafe.{greatest_is_annotation as law}
use Rattle.verdict_laws.proofs.safety.greatest_is_annotation.Goals as goal

pub returns : goal.returns
returns c = law
