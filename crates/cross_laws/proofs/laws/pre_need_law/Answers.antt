use Rattle.cross_laws.proofs.PreNeeds.{both-met}
use Rattle.cross_laws.proofs.laws.pre_need_law.Goals as goal

pub returns : goal.returns
returns c =
    λ s all u n b last p q at entry clear of is e_clear.
    both-met s all clear u n b last p q of is at entry e_clear
