use Rattle.verdict_laws.proofs.Unions.{union_of_two_keeps as law}
use Rattle.verdict_laws.proofs.known.union_of_two_keeps.Goals as goal

pub returns : goal.returns
returns c = law
