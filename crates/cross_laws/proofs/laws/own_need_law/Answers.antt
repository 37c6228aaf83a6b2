use Rattle.cross_laws.proofs.Encoded.{own-needs}
use Rattle.cross_laws.proofs.laws.own_need_law.Goals as goal

pub returns : goal.returns
returns c = λ s all u v p held clear of are. own-needs s all clear u v p of held are
