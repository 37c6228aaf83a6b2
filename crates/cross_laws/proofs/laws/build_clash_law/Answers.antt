use Rattle.cross_laws.proofs.Encoded.{build-clashes}
use Rattle.cross_laws.proofs.laws.build_clash_law.Goals as goal

pub returns : goal.returns
returns c =
    λ s all u v p relations clear is r_clear. build-clashes s all clear u v p is relations r_clear
