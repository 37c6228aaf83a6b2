use Rattle.verdict_laws.proofs.Unions.{unions_keep as law}
use Rattle.verdict_laws.proofs.known.unions_keep.Goals as goal

pub returns : goal.returns
returns c = law
