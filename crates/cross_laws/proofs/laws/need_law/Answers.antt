use Rattle.cross_laws.proofs.Encoded.{entry-met}
use Rattle.cross_laws.proofs.laws.need_law.Goals as goal

pub returns : goal.returns
returns c = λ s all u v p at entry clear is e_clear. entry-met s all clear u v p is at entry e_clear
