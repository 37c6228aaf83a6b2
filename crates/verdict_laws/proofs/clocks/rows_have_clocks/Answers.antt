use Rattle.verdict_laws.proofs.Above as law
use Rattle.verdict_laws.proofs.clocks.rows_have_clocks.Goals as goal

pub returns : goal.returns
returns c = law.rows_have_clocks
