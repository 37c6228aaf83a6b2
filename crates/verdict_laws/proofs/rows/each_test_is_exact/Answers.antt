use Rattle.verdict_laws.proofs.ByPlace as law
use Rattle.verdict_laws.proofs.rows.each_test_is_exact.Goals as goal

pub returns : goal.returns
returns c = law.each_test_is_exact
