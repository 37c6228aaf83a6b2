-- What a run of all lanes comes to. Parameters: a the accepted plan, gives_up what holds of a gate
-- that may give up, ends how the lanes ended, in file order.
--
--   HasCome              a lane at its end, in a state
--   IsFarmRun            a run that came to its end
--   IsStoppedRun         a run that stopped
--   IsFault, IsToldOf    why a run has no end
use Rattle.std.specs.Prelude.{◌≡◌, ◌⊎◌, ◌↔◌, ℕ, true, List, Some, length, slice_get}
use Rattle.chroot_state.specs.Held.{Held, IsHeld}
use Rattle.farm_archive.specs.declared.publication.Publication.{Publication}
use Rattle.farm_model.specs.declared.types.Variant.{Variant}
use Rattle.lane_runner.specs.declared.run.LaneStop.{LaneStop}
use Rattle.lane_runner.specs.declared.run.TheConstants.{GAVE_UP, HALTED}
use Rattle.plan_model.specs.Common.{lane, State, Reachable, is_finished, lane_state}
use Rattle.plan_verifier.specs.Accepted.{AcceptedPlan}
use Rattle.word_archive.specs.History.{HasOne}
use Rattle.farm_executor.specs.declared.causes.TheConstants.{NOT_STARTED}
use Rattle.farm_executor.specs.declared.run.RunFault.{RunFault}
use Rattle.farm_executor.specs.declared.run.RunFault.TheVariants.{Stopped, Memory}
use Rattle.farm_executor.specs.Ends.{IsCause}
use Rattle.farm_executor.specs.Publications.{IsNumbered, HasPublished}

-- Lane l is at its end in the state, with this chroot and this cost:
pub record HasCome (a : AcceptedPlan) (s : State) (l : ℕ) (c : Held) (spent : ℕ) : Type 0 where
  pub done : (lane_state s l).done ≡ length (lane a.plan l).instructions
  pub chroot : (lane_state s l).chroot ≡ c.slots
  pub cost : (lane_state s l).spent ≡ spent
  pub held : IsHeld a.universe c

-- A run that came to its end:
pub record IsFarmRun (a : AcceptedPlan) (chroots : List Held) (spent : List ℕ)
    (history : List Publication) : Type 0 where
  -- one run of the core leads to this state, in which all lanes are at their ends;
  pub state : State
  pub reached : Reachable a.universe a.plan state
  pub finished : is_finished a.plan state ≡ true
  -- the chroots and what was spent are those of its lanes, in file order;
  pub long : (length chroots ≡ length a.plan) × (length spent ≡ length a.plan)
  pub lanes : (l : ℕ) (c : Held) (n : ℕ) → slice_get chroots l ≡ Some c
      → slice_get spent l ≡ Some n → HasCome a state l c n
  -- the history has exactly what the state has published;
  pub published : (l : ℕ) (v : Variant)
      → HasPublished state l v ↔ HasOne history (λ h. (h.lane ≡ l) × (h.variant ≡ v))
  -- and serials from 0 on, which tell what was known before what.
  pub numbered : IsNumbered a history

-- a lane ended with one of these codes: it came to its end, gave up, was halted, or never started
abbrev pub IsEndCode : ℕ → Type 0
IsEndCode code =
    (code ≡ 0) ⊎ ((code ≡ GAVE_UP) ⊎ ((code ≡ HALTED) ⊎ (code ≡ NOT_STARTED)))

-- A run that stopped:
pub record IsStoppedRun (a : AcceptedPlan) (gives_up : Type 0) (ends : List LaneStop)
    (code l : ℕ) : Type 0 where
  -- each lane has an end;
  pub long : length ends ≡ length a.plan
  pub codes : (k : ℕ) (e : LaneStop) → slice_get ends k ≡ Some e → IsEndCode e.code
  -- an end names an instruction where its lane stopped ahead of one, by 501 or 502;
  pub unnamed : (k : ℕ) (e : LaneStop) → slice_get ends k ≡ Some e
      → (e.code ≡ 0) ⊎ (e.code ≡ NOT_STARTED) → e.instruction ≡ 0
  -- this lane is the cause, by its code;
  pub cause : IsCause ends code l
  -- and a lane gave up only where the gate may.
  pub gave_up : (k : ℕ) (e : LaneStop) → slice_get ends k ≡ Some e → e.code ≡ GAVE_UP → gives_up

-- a run that stopped hands back the plan that it was given
abbrev pub IsFault : AcceptedPlan → Type 0 → RunFault → Type 0
IsFault a gives_up (Stopped code l ends accepted) =
    (accepted ≡ a) × IsStoppedRun a gives_up ends.items code l
IsFault a gives_up Memory = Unit {0}

-- what is told of ends with a cause
abbrev pub IsToldOf : AcceptedPlan → List LaneStop → RunFault → Type 0
IsToldOf a stops (Stopped code l ends accepted) =
    (accepted ≡ a) × (ends.items ≡ stops) × IsCause stops code l
IsToldOf a stops Memory = ⊥
