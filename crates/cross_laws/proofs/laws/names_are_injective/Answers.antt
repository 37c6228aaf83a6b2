use Rattle.cross_laws.proofs.NameLaws.{decoded-encoded}
use Rattle.cross_laws.proofs.laws.names_are_injective.Goals as goal

pub returns : goal.returns
returns c = λ s sense name is free. decoded-encoded s is name free sense
