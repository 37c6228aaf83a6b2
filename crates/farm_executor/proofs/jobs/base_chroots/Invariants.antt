use Rattle.farm_executor.specs.Seated.{AreLaneBases}
use Rattle.farm_executor.proofs.jobs.base_chroots.Given as goal

abbrev pub invariant-loop-lane : goal.invariant-loop-lane
invariant-loop-lane l = AreLaneBases l.accepted l.lane l.chroots.items
