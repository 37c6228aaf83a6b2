use Rattle.verdict_laws.proofs.ByPlace as law
use Rattle.verdict_laws.proofs.rows.keeping_is_by_place.Goals as goal

pub returns : goal.returns
returns c = law.keeping_is_by_place
