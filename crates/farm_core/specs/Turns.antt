-- What a turn of a lane of the core says.
--
--   turn_told    the turn that an answer tells, where the lane is then in this state
--   MeetsNone    where traps are not tested, the turn meets none
--   IsTurn       the answer tells this turn, and the lane is then in its state
use Rattle.std.specs.Prelude.{◌≡◌, ◌≢◌}
use Rattle.farm_model.specs.Universe.{Universe}
use Rattle.farm_model.specs.declared.types.Trap.{Trap}
use Rattle.plan_model.specs.Common.{Lane, LaneState}
use Rattle.plan_model.specs.Turn as turn
use Rattle.farm_core.specs.Lanes.{shown, IsRun}
use Rattle.farm_core.specs.declared.lane.LaneRun.{LaneRun}
use Rattle.farm_core.specs.declared.traps.Traps.{Traps}
use Rattle.farm_core.specs.declared.traps.Traps.TheVariants.{Unmet}
use Rattle.farm_core.specs.declared.turn.Turn.{Turn}
use Rattle.farm_core.specs.declared.turn.Turn.TheVariants.{Goes, Gives, Waits, Ends, Fails}

abbrev pub turn_told : Turn → LaneState → turn.Turn
turn_told Goes next = turn.Goes next
turn_told (Gives v) next = turn.Gives next v
turn_told Waits next = turn.Waits
turn_told Ends next = turn.Ends
turn_told (Fails trap) next = turn.Fails trap

-- where traps are not tested, the turn meets none
abbrev pub MeetsNone : Traps → turn.Turn → Type 0
MeetsNone traps is = traps ≡ Unmet → (trap : Trap) → is ≢ turn.Fails trap

-- a lane that does not go on is as it was
abbrev pub IsUnmoved : Turn → LaneState → LaneState → Type 0
IsUnmoved Goes st next = Unit {0}
IsUnmoved (Gives v) st next = Unit {0}
IsUnmoved Waits st next = next ≡ st
IsUnmoved Ends st next = next ≡ st
IsUnmoved (Fails trap) st next = next ≡ st

pub record IsTurn (u : Universe) (of : Lane) (old new : LaneRun) (answer : Turn) (is : turn.Turn)
    : Type 0 where
  pub told : is ≡ turn_told answer (shown new)
  pub run : IsRun u of new
  pub kept : IsUnmoved answer (shown old) (shown new)
  pub waited : new.waited ≡ old.waited
