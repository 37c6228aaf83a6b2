use Rattle.verdict_laws.proofs.Unions.{greatest_is_one as law}
use Rattle.verdict_laws.proofs.known.greatest_is_one.Goals as goal

pub returns : goal.returns
returns c = law
