use Rattle.verdict_laws.proofs.Kept as law
use Rattle.verdict_laws.proofs.rows.greatest_is_carried.Goals as goal

pub returns : goal.returns
returns c = law.greatest_is_carried
