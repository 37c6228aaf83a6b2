use Rattle.std.proofs.Common.{refl, arith, sym}
use Rattle.std.proofs.lemmas.Bool.{false≢true}
use Rattle.farm_model.specs.Common.{variant}
use Rattle.leg_laws.proofs.Computed.{by_computation}
use Rattle.leg_laws.proofs.example.not_every_farm_goes_on.Goals as goal

pub returns-clause-lost : goal.returns-clause-lost
unfolding by_computation
returns-clause-lost c continues = false≢true (continues.exact (variant 1 0) (omega arith))

pub returns-clause-given_again : goal.returns-clause-given_again
unfolding by_computation
returns-clause-given_again c continues =
    false≢true (sym (continues.never_again 0 1 (variant 3 0) refl))
