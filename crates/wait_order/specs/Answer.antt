-- The order of a plan's waits, as an answer of the program.
use Rattle.std.specs.Prelude.{◌≢◌, []}
use Rattle.farm_model.specs.Universe.{Universe}
use Rattle.plan_model.specs.Common.{Plan, AreStuck}
use Rattle.wait_order.specs.declared.rounds.OrderError.{OrderError}
use Rattle.wait_order.specs.declared.rounds.OrderError.TheVariants.{Stuck, Memory}

-- why there is none: these lanes are stuck, one or more; or memory ran out
abbrev pub IsWhyNone : Universe → Plan → OrderError → Type 0
IsWhyNone u p (Stuck lanes) = AreStuck u p lanes.items × (lanes.items ≢ [])
IsWhyNone u p Memory = Unit {0}
