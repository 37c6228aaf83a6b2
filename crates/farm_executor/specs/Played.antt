-- What the lanes of a run came to, with their records and the archive that they leave. Parameters:
-- a the accepted plan, gives_up what holds of a gate that may give up; of the lanes, in file order:
-- stops how they ended, chroots, what they spent, and their records.
--
--   HasRun         what came of a lane
--   WereRun        what came of all lanes, and whether the archive was halted from outside
--   IsPlayed       and of the archive, once it was closed
use Rattle.std.specs.Prelude.{◌≡◌, ℕ, Bool, true, List, Some, length, slice_get}
use Rattle.chroot_state.specs.Held.{Held}
use Rattle.farm_archive.specs.declared.publication.Publication.{Publication}
use Rattle.archive_laws.specs.Records.{Record}
use Rattle.lane_runner.specs.declared.run.LaneStop.{LaneStop}
use Rattle.plan_verifier.specs.Accepted.{AcceptedPlan}
use Rattle.word_archive.specs.History.{IsClosed}
use Rattle.farm_executor.specs.declared.causes.TheConstants.{NOT_STARTED}
use Rattle.farm_executor.specs.LaneEnds.{IsEndOf, AreRising}

-- a lane ended so, from some chroot and record, and the serials that it drew rise
pub record HasRun (a : AcceptedPlan) (gives_up : Type 0) (l : ℕ) (stop : LaneStop) (c : Held)
    (spent : ℕ) (r : Record) : Type 0 where
  pub base : Held
  pub first : Record
  pub end : IsEndOf a gives_up l base first c r stop spent
  pub rising : AreRising r.serials

-- some lane ended with this code
abbrev pub SomeEnded : ℕ → List LaneStop → Type 0
SomeEnded code stops = (l : ℕ) × (e : LaneStop) × (slice_get stops l ≡ Some e) × (e.code ≡ code)

-- Of all lanes:
pub record WereRun (a : AcceptedPlan) (gives_up : Type 0) (stops : List LaneStop)
    (chroots : List Held) (spent : List ℕ) (stopped : Bool) (records : List Record)
    : Type 0 where
  -- there is an end, a chroot and a number of steps for each,
  pub long : length stops ≡ length a.plan
  pub chroots_long : length chroots ≡ length a.plan
  pub spent_long : length spent ≡ length a.plan
  -- which are what came of it;
  pub each : (l : ℕ) (e : LaneStop) (c : Held) (n : ℕ) (r : Record) → slice_get stops l ≡ Some e
      → slice_get chroots l ≡ Some c → slice_get spent l ≡ Some n → slice_get records l ≡ Some r
      → HasRun a gives_up l e c n r
  -- the archive was halted from outside only where a lane was not started.
  pub halted : stopped ≡ true → SomeEnded NOT_STARTED stops

-- Of all lanes and their archive:
pub record IsPlayed (a : AcceptedPlan) (gives_up : Type 0) (stops : List LaneStop)
    (chroots : List Held) (spent : List ℕ) (history : List Publication) : Type 0 where
  pub words : List ℕ
  pub records : List Record
  pub stopped : Bool
  pub closed : IsClosed a words records stopped history
  pub lanes : WereRun a gives_up stops chroots spent stopped records
