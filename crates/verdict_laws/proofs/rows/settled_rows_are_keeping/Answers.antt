use Rattle.verdict_laws.proofs.ByPlace as law
use Rattle.verdict_laws.proofs.rows.settled_rows_are_keeping.Goals as goal

pub returns : goal.returns
returns c = law.settled_rows_are_keeping
