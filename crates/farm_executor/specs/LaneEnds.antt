-- What comes of a lane of a run. Parameters: a the accepted plan, gives_up what holds of a gate
-- that may give up, l the lane, c0 and r0 its chroot and record before, c and r those after.
--
--   IsReady     a lane that may be started
--   IsEndOf     how it ended
--   AreRising   serials in the order in which a lane drew them
use Rattle.std.specs.Prelude.{◌≡◌, ◌⊎◌, ℕ, ◌<◌, true, false, List, Some, length, slice_get}
use Rattle.chroot_state.specs.Held.{Held, IsHeld, opened}
use Rattle.archive_laws.specs.Records.{Record}
use Rattle.lane_runner.specs.OnWay.{IsFresh, IsEnded}
use Rattle.lane_runner.specs.declared.run.LaneStop.{LaneStop}
use Rattle.lane_runner.specs.declared.run.TheConstants.{GAVE_UP, HALTED}
use Rattle.plan_model.specs.Plan.{lane}
use Rattle.plan_verifier.specs.Accepted.{AcceptedPlan}
use Rattle.farm_executor.specs.declared.causes.TheConstants.{NOT_STARTED}

-- A lane that has not begun, with an end of the archive that is its own:
pub record IsReady (a : AcceptedPlan) (l : ℕ) (about : AcceptedPlan) (of : ℕ) (c : Held)
    (r : Record) : Type 0 where
  pub in_plan : l < length a.plan
  pub about_is : about ≡ a
  pub lane_is : of ≡ l
  pub chroot : c ≡ opened a.universe (lane a.plan l).base
  pub held : IsHeld a.universe c
  pub fresh : IsFresh a.universe (lane a.plan l) r

-- How a lane ended, by its code:
pub record IsEndOf (a : AcceptedPlan) (gives_up : Type 0) (l : ℕ) (c0 : Held) (r0 : Record)
    (c : Held) (r : Record) (stop : LaneStop) (spent : ℕ) : Type 0 where
  pub held : IsHeld a.universe c
  pub code : (stop.code ≡ 0) ⊎ ((stop.code ≡ GAVE_UP)
      ⊎ ((stop.code ≡ HALTED) ⊎ (stop.code ≡ NOT_STARTED)))
  -- with 0 and with 503 no instruction is named;
  pub whole : stop.code ≡ 0 → stop.instruction ≡ 0
  pub unbegun : stop.code ≡ NOT_STARTED → stop.instruction ≡ 0
  -- with 0 it is at its end, with this chroot and this cost;
  pub ended : stop.code ≡ 0 → IsEnded a.universe a.plan l spent c r × (r.halted ≡ false)
  -- with 501 its gate gave up, and it has halted the archive;
  pub gave_up : stop.code ≡ GAVE_UP → gives_up × (r.halted ≡ true)
  -- with 502 it was told of a halt, and has not halted the archive;
  pub told : stop.code ≡ HALTED → (r.saw ≡ true) × (r.halted ≡ false)
  -- with 503 chroot and record are as they were.
  pub never : stop.code ≡ NOT_STARTED → (c ≡ c0) × (r ≡ r0)

-- each of two serials is above the one before it
abbrev pub AreRising : List ℕ → Type 0
AreRising serials =
    (i j x y : ℕ) → i < j → slice_get serials i ≡ Some x → slice_get serials j ≡ Some y → x < y
