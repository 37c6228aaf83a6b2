use Rattle.verdict_laws.proofs.Greatest as law
use Rattle.verdict_laws.proofs.clocks.greatest_clocks_are_greatest.Goals as goal

pub returns : goal.returns
returns c = law.greatest_clocks_are_greatest
