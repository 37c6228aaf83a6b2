use Rattle.std.proofs.Common.{refl, subst}
use Rattle.farm_executor.specs.Ends.{HaveEnded, IsCause}
use Rattle.farm_executor.proofs.run.told.Goals as goal

pub returns-in-Some-clause-stopped : goal.returns-in-Some-clause-stopped
returns-in-Some-clause-stopped c = (
  refl,
  refl,
  subst (λ xs. IsCause xs c.in-Some.code c.in-Some.lane) c.as_slice.ensures.value
      c.in-Some.ensures.cause,
)

pub returns-in-None-clause-ended : goal.returns-in-None-clause-ended
returns-in-None-clause-ended c = (
  refl,
  subst HaveEnded c.as_slice.ensures.value (c.in-None.ensures.none refl),
  refl,
  refl,
  refl,
)
