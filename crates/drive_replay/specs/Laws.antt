-- A journal that can be followed is one of a run: the state that it leads to is reached by a run of
-- the plan, and each pick and branch that is noted was made on its way.
--
--   Turned               a turn of a lane on the way to a farm's state
--   IsPick, IsBranch     what an unpack has picked there; into which branch a `when` has led
--   AreCores             what is noted is the core's
--   IsReplay             what the entries of a journal note
use Rattle.std.specs.Prelude.{◌≡◌, ℕ, suc, Bool, List, Option, Some}
use Rattle.chroot_state.specs.Slots.{bit_of}
use Rattle.deb_relation.specs.declared.operator.Op.{Op}
use Rattle.drive_replay.specs.Follow.{Life, branch_place}
use Rattle.drive_replay.specs.Following.{IsFollowed}
use Rattle.drive_replay.specs.LaneNotes.{LaneNotes, note_at}
use Rattle.drive_replay.specs.Orders.{OrderDecides}
use Rattle.farm_core.specs.Farm.{Farm}
use Rattle.farm_model.specs.Common.{slot, Universe}
use Rattle.plan_reader.specs.CountedPlan.{CountedPlan}
use Rattle.plan_model.specs.Common.{instruction_at, lane, State, Moved, Reachable, Run, lane_state, step}
use Rattle.plan_model.specs.declared.instructions.Instruction.TheVariants.{Unpack, When}

-- On a run to the farm's state the lane took a turn at this place:
pub record Turned (f : Farm) (l place : ℕ) : Type 0 where
  pub before : State
  pub after : State
  pub reached : Reachable f.universe f.plan.lanes before
  pub there : (lane_state before l).done ≡ place
  pub turn : step f.universe f.plan.lanes before l ≡ Moved after
  pub turns : List ℕ
  pub onward : Run f.universe f.plan.lanes after turns f.state

-- The unpack of this number has picked this variant of its name: the lane's chroot holds it behind
-- that turn.
abbrev pub IsPick : Farm → ℕ → ℕ → ℕ → Type 0
IsPick f l n b =
    (place : ℕ) × (n ≡ suc place) × (t : Turned f l place)
    × (name : ℕ) × (wanted : Option (Op × List ℕ))
    × (instruction_at f.plan.lanes l place ≡ Some (Unpack name wanted))
    × (bit_of (slot (lane_state t.after l).chroot name) ≡ Some b)

-- The `when` of this number has led into this branch.
abbrev pub IsBranch : Farm → ℕ → ℕ → Bool → Type 0
IsBranch f l n first =
    (place : ℕ) × (n ≡ suc place) × (t : Turned f l place)
    × (name : ℕ) × (wanted : Option (Op × List ℕ))
    × (instruction_at f.plan.lanes l place ≡ Some (When name wanted))
    × ((lane_state t.after l).done ≡ branch_place (lane f.plan.lanes l) place first)

pub record AreCores (x : Life) : Type 0 where
  pub reached : Reachable x.farm.universe x.farm.plan.lanes x.farm.state
  pub picks : (l n b : ℕ) → (note_at x.notes l n).pick ≡ Some b → IsPick x.farm l n b
  pub branches : (l n : ℕ) (first : Bool) → (note_at x.notes l n).branch ≡ Some first
      → IsBranch x.farm l n first

-- Of entries, the first of which stands in this line, these are the notes:
pub record IsReplay (u : Universe) (p : CountedPlan) (first : ℕ) (entries : List ℕ)
    (notes : LaneNotes) : Type 0 where
  -- those of a life that has followed them all,
  pub life : Life
  pub followed : IsFollowed u p first entries life
  pub noted : life.notes ≡ notes
  -- by a run of the plan's core, which has made each pick and branch that is noted,
  pub of_plan : (life.farm.universe ≡ u) × (life.farm.plan ≡ p)
  pub cores : AreCores life
  -- and whose order at the archive decides them.
  pub order : OrderDecides life.farm
