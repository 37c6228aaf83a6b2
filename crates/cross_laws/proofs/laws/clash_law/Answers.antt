use Rattle.cross_laws.proofs.Excluded.{exclude-alike}
use Rattle.cross_laws.proofs.laws.clash_law.Goals as goal

pub returns : goal.returns
returns c =
    λ s all u v w p q clear of is two. exclude-alike s all clear u v w p q of is two
