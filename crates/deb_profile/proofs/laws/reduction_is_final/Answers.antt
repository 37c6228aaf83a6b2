use Rattle.deb_profile.proofs.ReductionLaws.{reduced-again}
use Rattle.deb_profile.proofs.laws.reduction_is_final.Goals as goal

pub returns : goal.returns
returns c = reduced-again
