-- Notes on a plan: what each tells, as data, and the instruction that it is about. How a note is
-- spelled as lines is not said here. The project's own format.
--
--   PlaceFacts           an instruction of a lane, as it is told
--   FurtherFacts         what a note tells further, of which most notes have nothing
--   NoteFacts            a note
--   note_at, note_of     a note on an instruction by its place, and one where something is told
--   kind_word            the word of what a note tells, by which a script goes
use Rattle.std.specs.Prelude.{ℕ, ◌+◌, List, [], ◌∷◌, map, codes, Option, Some, None, option_map}
use Rattle.farm_model.specs.declared.types.Trap.{Trap}
use Rattle.farm_model.specs.declared.types.Variant.{Variant}
use Rattle.plan_reader.specs.declared.origin.Origin.{Origin}
use Rattle.plan_reader.specs.PlanLines.{LaneLines, origin_at}
use Rattle.plan_model.specs.Plan.{Plan, lane}
use Rattle.explain_reasons.specs.declared.types.Field.{Field}
use Rattle.explain_reasons.specs.declared.types.Reason.{Reason}
use Rattle.explain_lanes.specs.declared.further.Further.{Further}
use Rattle.explain_lanes.specs.declared.note.Group.{Group}
use Rattle.explain_lanes.specs.declared.note.Note.{Note}
use Rattle.explain_lanes.specs.declared.note.NotePlace.{NotePlace}
use Rattle.explain_lanes.specs.declared.note.Told.{Told}

-- the name of the lane, the number of the instruction from 1, its line in the plan's text with that
-- of the `use` that brings it in, and the trap that it may meet
pub record PlaceFacts : Type 0 where
  pub lane : List ℕ
  pub instruction : ℕ
  pub origin : Option Origin
  pub trap : Option Trap

-- what may be held and does not meet an entry, the budget that a lane needs, if that is told, or the
-- lanes of a circle in their order
pub data FurtherFacts : Type 0 where
  nothing_further : FurtherFacts
  MayBe : List Variant → FurtherFacts
  Needs : Option ℕ → FurtherFacts
  Lanes : List ℕ → FurtherFacts

-- what it tells, and further, and what instruction it is about, if any
pub record NoteFacts : Type 0 where
  pub told : Told
  pub further : FurtherFacts
  pub place : Option PlaceFacts

-- ---- what the types of the crate stand for

abbrev pub place_facts : NotePlace → PlaceFacts
place_facts place = record {
  lane = place.lane.items;
  instruction = place.instruction;
  origin = place.origin;
  trap = place.trap;
}

abbrev pub further_facts : Further → FurtherFacts
further_facts Further.Nothing = nothing_further
further_facts (Further.MayBe variants) = MayBe variants.items
further_facts (Further.Needs needs) = Needs needs
further_facts (Further.Lanes lanes) = Lanes lanes.items

abbrev pub facts : Note → NoteFacts
facts note = record {
  told = note.told;
  further = further_facts note.further;
  place = option_map place_facts note.place;
}

abbrev pub all_facts : List Note → List NoteFacts
all_facts notes = map facts notes

-- ---- notes

-- a note on the instruction at place i of lane l
abbrev pub note_at : Plan → List LaneLines → (l i : ℕ) → Option Trap → Told → FurtherFacts
    → NoteFacts
note_at p ls l i trap told further = record {
  told = told;
  further = further;
  place = Some (record {
    lane = (lane p l).name;
    instruction = i + 1;
    origin = origin_at ls l i;
    trap = trap;
  });
}

-- none where nothing is told
abbrev pub note_of : Plan → List LaneLines → (l i : ℕ) → Option Trap → (Told → FurtherFacts)
    → Option Told → List NoteFacts
note_of p ls l i trap further None = []
note_of p ls l i trap further (Some told) = note_at p ls l i trap told (further told) ∷ []

-- ---- words

unfoldable pub kind_word : Told → List ℕ
kind_word (Told.Trap (Reason.Missing n)) = codes "missing"
kind_word (Told.Trap (Reason.OverBudget spent cost budget)) = codes "over-budget"
kind_word (Told.Trap (Reason.Full used added capacity)) = codes "full"
kind_word (Told.Trap (Reason.Unmet v field i)) = codes "unmet"
kind_word (Told.Trap (Reason.Unsettled n)) = codes "unsettled"
kind_word (Told.Trap (Reason.BuildNeed r i)) = codes "build-need"
kind_word (Told.Trap (Reason.Conflict v w)) = codes "conflict"
kind_word (Told.Trap (Reason.Breaks v w)) = codes "breaks"
kind_word (Told.Trap (Reason.BuildConflict r v)) = codes "build-conflict"
kind_word (Told.Trap (Reason.WrongState n)) = codes "wrong-state"
kind_word (Told.Trap (Reason.Essential v)) = codes "essential"
kind_word (Told.Trap (Reason.NotBuilt r)) = codes "not-built"
kind_word (Told.Trap (Reason.StillNeeded v field i)) = codes "still-needed"
kind_word (Told.Uneven name) = codes "uneven"
kind_word (Told.Stuck Group.Unpublished next) = codes "unpublished"
kind_word (Told.Stuck Group.Circle next) = codes "in-circle"
kind_word (Told.Stuck Group.Behind next) = codes "behind"
kind_word (Told.Circle first) = codes "circle"
kind_word (Told.FromStart v) = codes "wait"
kind_word (Told.Coming v more) = codes "wait"
kind_word (Told.Text fault) = codes "text"

abbrev pub field_text : Field → List ℕ
field_text Field.PreDepends = codes "Pre-Depends"
field_text Field.Depends = codes "Depends"
