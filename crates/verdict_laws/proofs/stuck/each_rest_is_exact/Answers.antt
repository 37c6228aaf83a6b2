use Rattle.verdict_laws.proofs.AtRest.{each_rest_is_exact as law}
use Rattle.verdict_laws.proofs.stuck.each_rest_is_exact.Goals as goal

pub returns : goal.returns
returns c = law
