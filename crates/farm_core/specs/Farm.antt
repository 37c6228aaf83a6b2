-- A farm at work, as the calls of its core see it.
--
--   Farm                  a universe, a plan over it, and a state
--   with_state            the farm in another state
--   published_in          what a history tells, without serials
--   state_of              the state that lanes and an archive show
--   chroot_in             the chroot of a lane
--   step_told, state_after  what a step answers; the state after it
--   IsAsleep              what is known of a lane that was found waiting
--   IsCore                what each step keeps
--   AreOpened             lanes at their beginning
use Rattle.std.specs.Prelude.{◌≡◌, ◌≤◌, ◌+◌, ℕ, List, length, map, Some, slice_get}
use Rattle.chroot_state.specs.Held.{Held}
use Rattle.farm_archive.specs.declared.publication.Publication.{Publication}
use Rattle.farm_archive.specs.Kept.{Kept, IsArchive}
use Rattle.farm_laws.specs.EventsLeft.{InPlaces, left_in}
use Rattle.farm_model.specs.Common.{Universe, used, has_bit}
use Rattle.plan_reader.specs.CountedPlan.{CountedPlan}
use Rattle.plan_model.specs.Common.{Plan, lane, State, publication, lane_state, start_lane, turn_of, Waits, IsSound}
use Rattle.plan_model.specs.Run as run
use Rattle.farm_core.specs.Lanes.{shown, IsRun}
use Rattle.farm_core.specs.declared.answer.Step.{Step}
use Rattle.farm_core.specs.declared.answer.Step.TheVariants.{Moved, Blocked, Finished, Unknown, Trapped}
use Rattle.farm_core.specs.declared.lane.LaneRun.{LaneRun}

-- a farm at work: what it is, what is to be done, and how far it has come
pub record Farm : Type 0 where
  pub universe : Universe
  pub plan : CountedPlan
  pub state : State

-- the same farm in another state
abbrev pub with_state : Farm → State → Farm
with_state f s = record { universe = f.universe; plan = f.plan; state = s }

-- serials follow from the order, so a state has none
abbrev pub published_in : List Publication → List run.Publication
published_in history = map (λ (q : Publication). publication q.lane q.variant) history

-- what lanes show, and what an archive tells
abbrev pub state_of : List LaneRun → Kept → State
state_of lanes archive = record
    { lanes = map shown lanes; published = published_in archive.history }

-- the chroot of a lane was made of the lane's base chroot
abbrev pub chroot_in : Farm → ℕ → Held
chroot_in f l = record {
  slots = (lane_state f.state l).chroot;
  base = (lane f.plan.lanes l).base;
  used = used f.universe (lane_state f.state l).chroot;
}

-- the answer without the state
abbrev pub step_told : run.Outcome → Step
step_told (run.Moved s) = Moved
step_told run.Blocked = Blocked
step_told run.Finished = Finished
step_told run.Unknown = Unknown
step_told (run.Trapped trap) = Trapped trap

-- where a lane does not move, the state is as it was
abbrev pub state_after : State → run.Outcome → State
state_after s (run.Moved next) = next
state_after s _ = s

-- a lane that was found waiting with so many publications waits while there are no more
pub record IsAsleep (u : Universe) (p : Plan) (kept : Kept) (l : ℕ) (r : LaneRun) : Type 0 where
  pub within : r.waited ≤ length kept.history + 1
  pub waits : r.waited ≡ length kept.history + 1
      → turn_of u (has_bit kept.words) (lane p l) (shown r)
      (slice_get (lane p l).instructions r.done) ≡ Waits

-- a plan over this universe; each lane in its place; the archive of what was published, with room
-- for all events that are left
pub record IsCore (u : Universe) (p : Plan) (lanes : List LaneRun) (kept : Kept) : Type 0 where
  pub sound : IsSound u p
  pub long : length lanes ≡ length p
  pub each : (l : ℕ) (r : LaneRun) → slice_get lanes l ≡ Some r → IsRun u (lane p l) r
  pub asleep : (l : ℕ) (r : LaneRun) → slice_get lanes l ≡ Some r → IsAsleep u p kept l r
  pub archive : IsArchive u (published_in kept.history) kept
  pub places : InPlaces u p (state_of lanes kept)
  pub room : length kept.history + left_in u p (state_of lanes kept) ≤ kept.room

-- lanes at their beginning
pub record AreOpened (u : Universe) (p : Plan) (lanes : List LaneRun) : Type 0 where
  pub start : map shown lanes ≡ map (start_lane u) p
  pub each : (l : ℕ) (r : LaneRun) → slice_get lanes l ≡ Some r → IsRun u (lane p l) r
  pub awake : (l : ℕ) (r : LaneRun) → slice_get lanes l ≡ Some r → r.waited ≡ 0
