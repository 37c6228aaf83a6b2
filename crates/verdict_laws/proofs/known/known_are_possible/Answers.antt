use Rattle.verdict_laws.proofs.Unions.{known_are_possible as law}
use Rattle.verdict_laws.proofs.known.known_are_possible.Goals as goal

pub returns : goal.returns
returns c = law
