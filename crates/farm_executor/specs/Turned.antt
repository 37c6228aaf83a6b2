-- Lanes that take their turns. Parameters: home the archive of a lane's end, a its accepted plan, l
-- its number, r its record, before some turns and after.
--
--   IsTurned     a lane behind some turns
--   IsRested     how a lane ended that is not the cause of a stop
--   IsStopIn     how a lane ended in a run that stopped
use Rattle.std.specs.Prelude.{◌≡◌, ◌≢◌, ◌⊎◌, ℕ}
use Rattle.atomic_table.specs.Seated.{TableId}
use Rattle.chroot_state.specs.Held.{Held}
use Rattle.archive_laws.specs.Records.{Record}
use Rattle.lane_runner.specs.Calls.{HasKept, IsRunning, IsSameEnd}
use Rattle.lane_runner.specs.declared.run.LaneStop.{LaneStop}
use Rattle.lane_runner.specs.declared.run.TheConstants.{GAVE_UP, HALTED}
use Rattle.lane_runner.specs.declared.runner.Runner.{Runner}
use Rattle.plan_verifier.specs.Accepted.{AcceptedPlan}

-- The lane is on its way, at the same end, and has neither halted nor been told of a halt meanwhile:
pub record IsTurned (home : TableId) (a : AcceptedPlan) (l : ℕ) (r : Record) (home' : TableId)
    (of : AcceptedPlan) (w : Runner) (c : Held) (a' : AcceptedPlan) (l' : ℕ) (r' : Record)
    : Type 0 where
  pub same : IsSameEnd home a l home' a' l'
  pub kept : HasKept r r'
  pub running : IsRunning of w c a' l' r'

-- at its end, or short of it
abbrev pub IsRested : LaneStop → Type 0
IsRested stop = ((stop.code ≡ 0) × (stop.instruction ≡ 0)) ⊎ (stop.code ≡ HALTED)

-- the cause gave up, and no other lane did
abbrev pub IsStopIn : ℕ → ℕ → LaneStop → Type 0
IsStopIn cause k stop =
    ((k ≡ cause) × (stop.code ≡ GAVE_UP)) ⊎ ((k ≢ cause) × IsRested stop)
