-- What notes tell, as facts that become members of their objects, which stand in the order of their
-- names. The lines are those that spell a note, whatever they are. The project's own format.
-- Parameters: u a universe, p a plan, of what notes are on.
--
--   Fact                  a word, and the number, the text or the texts that stand behind it
--   with_facts            members with facts
--   told_facts u p told   what is told
--   about_facts of note   all that a note tells of a farm, or of what a refusal of a text is about
--   where_facts           the instruction that it is about
--   reason_data of note   a note as an object
use Rattle.std.specs.Prelude.{ℕ, ◌+◌, List, [], ◌∷◌, ◌++◌, map, codes, Option, Some, None, slice_get, option_and_then, option_map}
use Rattle.std.specs.List.{fold}
use Rattle.shown_text.specs.Texts.{text_data}
use Rattle.deb_relation.specs.Common.{Entry, entry_text}
use Rattle.deb_text.specs.Lines.{lines_of}
use Rattle.farm_answers.specs.Refusals.{number_data}
use Rattle.explain_lanes.specs.Notes.{FurtherFacts, Lanes, MayBe, Needs, NoteFacts, PlaceFacts, facts, field_text, kind_word, nothing_further}
use Rattle.explain_lanes.specs.declared.note.Note.{Note}
use Rattle.explain_lanes.specs.declared.note.Told.{Told}
use Rattle.plan_reader.specs.Planned.{FarmPlan}
use Rattle.farm_model.specs.Common.{recipe, trap_text, Universe}
use Rattle.farm_model.specs.declared.types.Variant.{Variant}
use Rattle.explain_faults.specs.declared.found.FaultFacts.{FaultFacts}
use Rattle.plan_reader.specs.Listing.{name_of_number}
use Rattle.plan_reader.specs.Variants.{variant_text}
use Rattle.plan_reader.specs.declared.origin.Origin.{Origin}
use Rattle.plan_model.specs.Plan.{Plan, lane}
use Rattle.explain_reasons.specs.Reasons.{asked_in_field}
use Rattle.explain_reasons.specs.declared.types.Reason.{Reason}
use Rattle.serde_json.specs.Data.{Data, Members, array, no_members, object, put}
use Rattle.serde_json.specs.View.{items_of, members_view}
use Rattle.explain_answers.specs.declared.note_json.Subject.{Subject}
use Rattle.explain_answers.specs.declared.note_json.NoteObject.{NoteObject}

-- what is none is no member
pub data Fact : Type 0 where
  Number : List ℕ → Option ℕ → Fact
  Words : List ℕ → Option (List ℕ) → Fact
  Texts : List ℕ → List (List ℕ) → Fact

abbrev pub with_fact : Members → Fact → Members
with_fact members (Number word None) = members
with_fact members (Number word (Some n)) = put word (number_data n) members
with_fact members (Words word None) = members
with_fact members (Words word (Some text)) = put word (text_data text) members
with_fact members (Texts word texts) = put word (array (items_of (map text_data texts))) members

-- one after another
abbrev pub with_facts : Members → List Fact → Members
with_facts = fold with_fact

-- those of an object that grows
abbrev pub held : NoteObject → Members
held note = members_view note.members.entries

-- ---- a reason

abbrev pub variant_fact : Universe → Variant → Fact
variant_fact u v = Words (codes "variant") (Some (variant_text u v))

abbrev pub recipe_fact : Universe → ℕ → Fact
recipe_fact u r = Words (codes "recipe") (Some (recipe u r).name)

abbrev pub package_fact : Universe → ℕ → Fact
package_fact u n = Words (codes "package") (Some (name_of_number u n))

-- an entry of a field, if there is one
abbrev pub asked_facts : List ℕ → Option Entry → List Fact
asked_facts field e =
    Words (codes "field") (Some field) ∷ Words (codes "entry") (option_map entry_text e) ∷ []

abbrev pub reason_facts : Universe → Reason → List Fact
reason_facts u (Reason.Missing n) = package_fact u n ∷ []
reason_facts u (Reason.OverBudget spent cost budget) =
    Number (codes "spent") (Some spent) ∷ Number (codes "cost") (Some cost)
    ∷ Number (codes "budget") (Some budget) ∷ []
reason_facts u (Reason.Full used added capacity) =
    Number (codes "used") (Some used) ∷ Number (codes "added") (Some added)
    ∷ Number (codes "capacity") (Some capacity) ∷ []
reason_facts u (Reason.Unmet v field i) =
    variant_fact u v ∷ asked_facts (field_text field) (slice_get (asked_in_field u v field) i)
reason_facts u (Reason.Unsettled n) = package_fact u n ∷ []
reason_facts u (Reason.BuildNeed r i) =
    recipe_fact u r ∷ asked_facts (codes "Build-Depends") (slice_get (recipe u r).needs i)
reason_facts u (Reason.Conflict v w) =
    variant_fact u v ∷ Words (codes "other") (Some (variant_text u w)) ∷ []
reason_facts u (Reason.Breaks v w) =
    variant_fact u v ∷ Words (codes "other") (Some (variant_text u w)) ∷ []
reason_facts u (Reason.BuildConflict r v) = recipe_fact u r ∷ variant_fact u v ∷ []
reason_facts u (Reason.WrongState n) = package_fact u n ∷ []
reason_facts u (Reason.Essential v) = variant_fact u v ∷ []
reason_facts u (Reason.NotBuilt r) = recipe_fact u r ∷ []
reason_facts u (Reason.StillNeeded v field i) =
    variant_fact u v ∷ asked_facts (field_text field) (slice_get (asked_in_field u v field) i)

-- ---- what is told

abbrev pub lane_fact : Plan → List ℕ → ℕ → Fact
lane_fact p word l = Words word (Some (lane p l).name)

abbrev pub told_facts : Universe → Plan → Told → List Fact
told_facts u p (Told.Trap reason) = reason_facts u reason
told_facts u p (Told.Uneven n) = package_fact u n ∷ []
told_facts u p (Told.Stuck group None) = []
told_facts u p (Told.Stuck group (Some next)) = lane_fact p (codes "waits_for") next ∷ []
told_facts u p (Told.Circle first) = lane_fact p (codes "lane") first ∷ []
told_facts u p (Told.FromStart v) = variant_fact u v ∷ []
told_facts u p (Told.Coming v more) = variant_fact u v ∷ Number (codes "more") (Some more) ∷ []
told_facts u p (Told.Text fault) = []

abbrev pub further_facts : Universe → Plan → FurtherFacts → List Fact
further_facts u p nothing_further = []
further_facts u p (MayBe variants) = Texts (codes "may_be") (map (variant_text u) variants) ∷ []
further_facts u p (Needs needs) = Number (codes "needs") needs ∷ []
further_facts u p (Lanes lanes) = Texts (codes "lanes") (map (λ l. (lane p l).name) lanes) ∷ []

-- of a refusal of a text its field, its item by its number from 1 and the item's own line, its
-- word, and the line of the plan that it repeats
abbrev pub fault_facts : FaultFacts → List Fact
fault_facts it =
    Words (codes "field") (option_map (λ name. name.now) it.field)
    ∷ Number (codes "item") (option_map (λ place. place + 1) it.item)
    ∷ Number (codes "item_line") it.item_line
    ∷ Words (codes "word") (option_map (λ word. word.items) it.word)
    ∷ Number (codes "plan_line") it.plan_line ∷ []

-- ---- what notes are on

-- texts that can be read, or one that is refused
pub data About : Type 0 where
  OfFarm : FarmPlan → About
  OfFault : FaultFacts → About

abbrev pub about : Subject → About
about (Subject.Farm universe plan) =
    OfFarm (record { universe = universe.now; plan = plan.now.lanes })
about (Subject.Fault it) = OfFault it.now

abbrev pub about_facts : About → NoteFacts → List Fact
about_facts (OfFarm of) note =
    told_facts of.universe of.plan note.told ++ further_facts of.universe of.plan note.further
about_facts (OfFault it) note = fault_facts it

-- ---- a note as an object

-- the line of an instruction in the plan, and that of the `use` that brings it in
abbrev pub line_facts : Option Origin → List Fact
line_facts origin =
    Number (codes "plan_line") (option_map (λ (it : Origin). it.line) origin)
    ∷ Number (codes "use_line") (option_and_then (λ (it : Origin). it.used) origin) ∷ []

abbrev pub where_facts : Option PlaceFacts → List Fact
where_facts None = []
where_facts (Some place) =
    Number (codes "instruction") (Some place.instruction) ∷ Words (codes "lane") (Some place.lane)
    ∷ (line_facts place.origin ++ Words (codes "trap") (option_map trap_text place.trap) ∷ [])

abbrev pub head_and_text : Note → List ℕ
head_and_text note = note.head.items ++ note.text.items

-- its kind, its lines, what it tells, and where
abbrev pub note_facts : About → Note → List Fact
note_facts of note =
    Words (codes "kind") (Some (kind_word note.told))
    ∷ Texts (codes "lines") (lines_of (head_and_text note))
    ∷ (about_facts of (facts note) ++ where_facts (facts note).place)

abbrev pub reason_data : About → Note → Data
reason_data of note = object (with_facts no_members (note_facts of note))

abbrev pub reasons_data : About → List Note → Data
reasons_data of notes = array (items_of (map (reason_data of) notes))
