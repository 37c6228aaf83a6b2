use Rattle.verdict_laws.proofs.Alike as law
use Rattle.verdict_laws.proofs.rows.agreeing_rows_are_alike.Goals as goal

pub returns : goal.returns
returns c = law.agreeing_rows_are_alike
