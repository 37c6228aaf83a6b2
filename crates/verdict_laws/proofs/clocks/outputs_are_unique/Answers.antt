use Rattle.verdict_laws.proofs.Unique as law
use Rattle.verdict_laws.proofs.clocks.outputs_are_unique.Goals as goal

pub returns : goal.returns
returns c = law.outputs_are_unique
