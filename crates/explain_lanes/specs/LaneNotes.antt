-- The notes on the unsafe instructions of a plan's lanes, and what they tell further, as data. The
-- project's own format. Parameters: u a universe, p a plan, rows what its lanes know, ls the lines of
-- its text, l a lane, i a place, m a may map, e an entry, n a name, v a variant.
--
--   could_meet       a name could meet an entry, in some version
--   may_be           what may be held of such names and does not meet the entry
--   told_further     what is told further at a place
--   parting_name     the first name whose phases differ behind branches
--   hazard_told      what is told of a hazard
--   lane_notes       a note on a lane's first hazard
--   unsafe_notes     one for each lane that has such an instruction
--   BeginsAt         the first of some notes is on this instruction
--   NotesBeginWithTheVerdict, EachHazardIsTold
--                    it is on that of the refusal; a lane that has a hazard has one note
use Rattle.std.specs.Prelude.{◌≡◌, ℕ, ◌-◌, Bool, not, List, [], length, Option, Some, None, option_and_then, option_map, slice_get, ◌&&◌, ◌||◌, ◌==◌, if◌then◌else◌, bytes_eq}
use Rattle.std.specs.List.{find, range_with_len, list_any}
use Rattle.farm_model.specs.Common.{names, package_of, recipe, satisfies_entry, variant, variants, Universe}
use Rattle.farm_model.specs.declared.types.Trap.{Trap}
use Rattle.farm_model.specs.declared.types.Variant.{Variant}
use Rattle.plan_reader.specs.PlanLines.{LaneLines}
use Rattle.plan_model.specs.Common.{is_same_phase, Rows, IsGreatest, May, MaySlot, is_surely_configured, maps_at, may_at, Plan, Hazard}
use Rattle.plan_verifier.specs.Verdict.{IsRefused}
use Rattle.deb_relation.specs.Relations.{Atom, Entry}
use Rattle.plan_reader.specs.Listing.{name_of_number}
use Rattle.explain_reasons.specs.Listed.{all_below, held, variants_in}
use Rattle.explain_reasons.specs.Reasons.{reason_at, asked_in_field}
use Rattle.explain_reasons.specs.Removals.{lane_hazard, trap_of}
use Rattle.explain_reasons.specs.declared.along.LaneHazard.{LaneHazard}
use Rattle.explain_reasons.specs.Cost.{lane_needs}
use Rattle.explain_reasons.specs.declared.types.Reason.{Reason}
use Rattle.explain_lanes.specs.declared.note.Told.{Told}
use Rattle.explain_lanes.specs.Notes.{NoteFacts, PlaceFacts, note_of, FurtherFacts, MayBe, Needs, nothing_further}

-- ---- what could meet an entry

-- an alternative has this name
abbrev pub is_named : List ℕ → Entry → Bool
is_named name e = list_any (λ (a : Atom). bytes_eq a.name name) e

-- a variant provides it (Debian Policy 7.5)
abbrev pub provides : Universe → List ℕ → Variant → Bool
provides u name v = list_any (is_named name) (package_of u v).provides

-- some variant of a name does
abbrev pub some_provides : Universe → ℕ → List ℕ → Bool
some_provides u n name =
    list_any (λ b. provides u name (variant n b)) (range_with_len 0 (variants u n))

-- it stands in the entry, or some variant of it provides what does
abbrev pub could_meet : Universe → Entry → ℕ → Bool
could_meet u e n =
    list_any (λ (a : Atom). bytes_eq (name_of_number u n) a.name || some_provides u n a.name) e

-- ---- what may be held of that

-- a variant may be held, and is not configured or does not satisfy the entry
abbrev pub is_no_help : Universe → Entry → MaySlot → Variant → Bool
is_no_help u e s v = held s v.bit && not (is_surely_configured s && satisfies_entry u e v)

abbrev pub of_name : Universe → May → Entry → ℕ → List Variant
of_name u m e n =
    variants_in u n (λ b. could_meet u e n && is_no_help u e (m.slots n) (variant n b))

-- names by number, and of each the versions from the lowest up
unfoldable pub may_be : Universe → May → Entry → List Variant
may_be u m e = all_below (names u) (of_name u m e)

-- if there is any, of an entry that there may be
abbrev pub held_instead : List Variant → FurtherFacts
held_instead vs = if length vs == 0 then nothing_further else MayBe vs

abbrev pub entry_further : Universe → May → Option Entry → FurtherFacts
entry_further u m None = nothing_further
entry_further u m (Some e) = held_instead (may_be u m e)

-- ---- what is told further

-- of an entry that is not surely met, by what may be held at its place; of a budget that is too small
-- what the lane needs at most
abbrev pub reason_further : Universe → Plan → Rows → ℕ → May → Reason → FurtherFacts
reason_further u p rows l m (Reason.Unmet v field i) =
    entry_further u m (slice_get (asked_in_field u v field) i)
reason_further u p rows l m (Reason.BuildNeed r i) =
    entry_further u m (slice_get (recipe u r).needs i)
reason_further u p rows l m (Reason.OverBudget spent cost budget) = Needs (lane_needs u p rows l)
reason_further u p rows l m reason = nothing_further

abbrev pub told_further : Universe → Plan → Rows → (l i : ℕ) → Told → FurtherFacts
told_further u p rows l i (Told.Trap reason) =
    reason_further u p rows l (may_at u p rows l i) reason
told_further u p rows l i told = nothing_further

-- ---- why branches part

-- the first name that is not in one phase at the ends of both branches
abbrev pub differs : May → May → ℕ → Bool
differs first second n = not (is_same_phase (first.slots n) (second.slots n))

abbrev pub parting_name : Universe → May → May → Option ℕ
parting_name u first second = find (differs first second) (range_with_len 0 (names u))

-- ---- notes

-- of a trap its reason; of branches that part the first name that differs
abbrev pub hazard_told : Universe → Plan → Rows → (l i : ℕ) → Option Trap → Option Told
hazard_told u p rows l i (Some trap) = option_map Told.Trap (reason_at u p rows l i trap)
hazard_told u p rows l i None =
    option_map Told.Uneven
    (parting_name u (maps_at u p rows l i).first (maps_at u p rows l i).here)

-- on the instruction by whose number what is unsafe is refused; none of a safe lane
abbrev pub hazard_notes : Universe → Plan → Rows → List LaneLines → ℕ → Option LaneHazard
    → List NoteFacts
hazard_notes u p rows ls l None = []
hazard_notes u p rows ls l (Some it) =
    note_of p ls l (it.instruction - 1) it.trap (told_further u p rows l it.place)
    (hazard_told u p rows l it.place it.trap)

unfoldable pub lane_notes : Universe → Plan → Rows → List LaneLines → ℕ → List NoteFacts
lane_notes u p rows ls l = hazard_notes u p rows ls l (lane_hazard u p rows l)

-- lane by lane, in file order
unfoldable pub unsafe_notes : Universe → Plan → Rows → List LaneLines → List NoteFacts
unsafe_notes u p rows ls = all_below (length p) (lane_notes u p rows ls)

-- ---- the first note is on the instruction of the verdict, and each hazard is told

-- an instruction by its lane's name, its number and its trap
abbrev pub BeginsAt : List ℕ → ℕ → Option Trap → List NoteFacts → Type 0
BeginsAt name number trap notes =
    (place : PlaceFacts)
    × (option_and_then (λ (note : NoteFacts). note.place) (slice_get notes 0) ≡ Some place)
    × (place.lane ≡ name) × (place.instruction ≡ number) × (place.trap ≡ trap)

-- so do those of a plan that is refused for an instruction or a branch, by its refusal: under the
-- greatest known rows, and whatever the lines of the plan's text
abbrev pub NotesBeginWithTheVerdict : Type 0
NotesBeginWithTheVerdict =
    (u : Universe) (p : Plan) (rows : Rows) (ls : List LaneLines) (name : List ℕ) (number : ℕ)
    (hazard : Hazard) → IsGreatest u p rows → IsRefused u p name number hazard
    → BeginsAt name number (trap_of hazard) (unsafe_notes u p rows ls)

-- whatever its lanes know
abbrev pub EachHazardIsTold : Type 0
EachHazardIsTold =
    (u : Universe) (p : Plan) (rows : Rows) (ls : List LaneLines) (l : ℕ) (it : LaneHazard)
    → lane_hazard u p rows l ≡ Some it → length (lane_notes u p rows ls l) ≡ 1
