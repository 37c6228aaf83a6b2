use Rattle.farm_core.proofs.Played.{PlayedTo}
use Rattle.farm_core.proofs.schedule.play.Given as goal

abbrev pub invariant-loop-index : goal.invariant-loop-index
invariant-loop-index l = PlayedTo l.initial.core l.schedule l.index l.core
