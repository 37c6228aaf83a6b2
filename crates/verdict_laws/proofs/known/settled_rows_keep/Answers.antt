use Rattle.verdict_laws.proofs.Rounds.{settled_rows_keep as law}
use Rattle.verdict_laws.proofs.known.settled_rows_keep.Goals as goal

pub returns : goal.returns
returns c = law
