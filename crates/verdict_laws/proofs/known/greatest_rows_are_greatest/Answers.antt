use Rattle.verdict_laws.proofs.Rounds.{greatest_rows_are_greatest as law}
use Rattle.verdict_laws.proofs.known.greatest_rows_are_greatest.Goals as goal

pub returns : goal.returns
returns c = law
