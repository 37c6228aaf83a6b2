-- What a schedule comes to, as the core answers it.
--
--   stop_of          the place of a trap
--   ended            the ending that an outcome tells
use Rattle.std.specs.Prelude.{Option}
use Rattle.std.specs.Option.{option_map}
use Rattle.plan_model.specs.Run as run
use Rattle.plan_model.specs.Run.{State, Ending}
use Rattle.farm_core.specs.declared.schedule.Stop.{Stop}

abbrev pub stop_of : Stop → run.Stop
stop_of s = record { step = s.step; lane = s.lane; instruction = s.instruction; trap = s.trap }

abbrev pub ended : State → Option Stop → Ending
ended s trap = record { state = s; stop = option_map stop_of trap }
