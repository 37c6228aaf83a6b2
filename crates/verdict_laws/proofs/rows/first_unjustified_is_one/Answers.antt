use Rattle.verdict_laws.proofs.ByPlace as law
use Rattle.verdict_laws.proofs.rows.first_unjustified_is_one.Goals as goal

pub returns : goal.returns
returns c = law.first_unjustified_is_one
