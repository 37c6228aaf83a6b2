use Rattle.verdict_laws.proofs.Quiet.{initial_rows_are_greatest as law}
use Rattle.verdict_laws.proofs.known.initial_rows_are_greatest.Goals as goal

pub returns : goal.returns
returns c = law
