use Rattle.farm_executor.specs.Ends.{HasNoneBelow}
use Rattle.farm_executor.proofs.causes.first_with.Given as goal

abbrev pub invariant-loop-lane : goal.invariant-loop-lane
invariant-loop-lane l = HasNoneBelow l.code l.ends l.lane
