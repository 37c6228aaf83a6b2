-- The notes on lanes that are stuck. The project's own format. Parameters: u a universe, p a plan,
-- ls the lines of its text, at the place where each lane stands, nexts for each lane the one that it
-- waits for, l a lane, i a place, e an entry.
--
--   awaited                what a lane waits for where it stands
--   waits_for              the first lane that publishes what satisfies it, there or behind
--   follow, way_back       from lane to lane so many times; how many lie between a lane and itself
--   stands_in              whether a lane is of a group
--   group_notes            the notes on the lanes of a group
--   circle_notes           one circle of lanes
--   stuck_notes            all of them
--   ShowsStuck u p ls notes    they are those of the places where the lanes stand once none goes on
--   AreOn                  some notes are on the lanes of these names
--   NotesAreOnTheStuck     so are those of a plan that is refused for stuck lanes
use Rattle.std.specs.Prelude.{◌≡◌, ℕ, ◌+◌, nat_le, nat_lt, Bool, false, not, ◌&&◌, ◌==◌, is_some, List, ◌++◌, length, drop, filter, find, fold, map, Option, Some, None, IfSome, slice_index_or, All, Contains, option_and_then, option_map, option_to_list, unwrap_or}
use Rattle.std.specs.List.{filter_map, list_any, range_with_len}
use Rattle.deb_relation.specs.Relations.{Entry}
use Rattle.farm_model.specs.Common.{satisfies_entry, variants, Universe}
use Rattle.farm_model.specs.declared.types.Variant.{Variant}
use Rattle.plan_reader.specs.PlanLines.{LaneLines}
use Rattle.plan_model.specs.Plan.{Plan, lane, instruction_at, outputs_of}
use Rattle.plan_model.specs.declared.instructions.Instruction.{Instruction}
use Rattle.plan_model.specs.declared.instructions.Instruction.TheVariants.{Wait}
use Rattle.plan_verifier.specs.Verdict.{AreStuckLanes}
use Rattle.wait_order.specs.declared.standing.Standing.{Standing}
use Rattle.wait_order.specs.Settled.{IsSettled}
use Rattle.wait_order.specs.Standing.{AreStanding, place_of}
use Rattle.explain_lanes.specs.declared.note.Group.{Group}
use Rattle.explain_lanes.specs.declared.note.Told.{Told}
use Rattle.explain_reasons.specs.Listed.{all_below, one_if}
use Rattle.explain_lanes.specs.Notes.{Lanes, NoteFacts, PlaceFacts, note_at, nothing_further}

-- ---- which lane a lane waits for

-- the entry of a wait
abbrev pub entry_of : Instruction → Option Entry
entry_of (Wait e) = Some e
entry_of x = None

-- of the wait at a place of a lane
abbrev pub wait_at : Plan → ℕ → ℕ → Option Entry
wait_at p l i = option_and_then entry_of (instruction_at p l i)

abbrev pub awaited : Plan → (ℕ → ℕ) → ℕ → Option Entry
awaited p at l = wait_at p l (at l)

-- a variant of the universe satisfies the entry
abbrev pub satisfies : Universe → Entry → Variant → Bool
satisfies u e v = nat_lt v.bit (variants u v.name) && satisfies_entry u e v

-- the instruction publishes what does
abbrev pub serves : Universe → Entry → Instruction → Bool
serves u e x = list_any (satisfies u e) (outputs_of u x)

-- the first lane that has such an instruction, where it stands or behind
abbrev pub first_server : Universe → Plan → (ℕ → ℕ) → Entry → Option ℕ
first_server u p at e =
    find (λ l. list_any (serves u e) (drop (at l) (lane p l).instructions))
    (range_with_len 0 (length p))

abbrev pub waits_for : Universe → Plan → (ℕ → ℕ) → ℕ → Option ℕ
waits_for u p at l = option_and_then (first_server u p at) (awaited p at l)

-- of each lane
abbrev pub nexts : Universe → Plan → (ℕ → ℕ) → List (Option ℕ)
nexts u p at = map (waits_for u p at) (range_with_len 0 (length p))

abbrev pub next_of : List (Option ℕ) → ℕ → Option ℕ
next_of nexts l = slice_index_or nexts l None

-- the lane that is k lanes on
abbrev pub follow : List (Option ℕ) → (l k : ℕ) → Option ℕ
follow nexts l k =
    fold (λ at j. option_and_then (next_of nexts) at) (Some l) (range_with_len 0 k)

abbrev pub is_lane : ℕ → Option ℕ → Bool
is_lane l None = false
is_lane l (Some m) = m == l

-- how many others lie on the way from a lane to itself, where there is one
abbrev pub way_back : List (Option ℕ) → ℕ → Option ℕ
way_back nexts l =
    find (λ k. is_lane l (follow nexts l (k + 1))) (range_with_len 0 (length nexts))

-- no lane publishes for it; it waits for itself, over others or not; it does not, but waits for a
-- lane
abbrev pub stands_in : List (Option ℕ) → Group → ℕ → Bool
stands_in nexts Group.Unpublished l = not (is_some (next_of nexts l))
stands_in nexts Group.Circle l = is_some (way_back nexts l)
stands_in nexts Group.Behind l = is_some (next_of nexts l) && not (is_some (way_back nexts l))

-- ---- notes on lanes

-- of a lane that stands at a wait: why it is stuck there, and the lane that it waits for
abbrev pub lane_note : Plan → List LaneLines → List (Option ℕ) → Group → (l i : ℕ) → NoteFacts
lane_note p ls nexts group l i =
    note_at p ls l i None (Told.Stuck group (next_of nexts l)) nothing_further

-- none of a lane that does not wait, or is of another group
abbrev pub lane_notes : Plan → List LaneLines → List (Option ℕ) → Group → (l i : ℕ)
    → List NoteFacts
lane_notes p ls nexts group l i =
    one_if (is_some (wait_at p l i) && stands_in nexts group l) (lane_note p ls nexts group l i)

abbrev pub group_notes : Plan → List LaneLines → List (Option ℕ) → (ℕ → ℕ) → Group
    → List NoteFacts
group_notes p ls nexts at group = all_below (length p) (λ l. lane_notes p ls nexts group l (at l))

-- ---- a circle

-- the lanes from one on that are no more lanes on than it takes to come back to it
abbrev pub lanes_round : List (Option ℕ) → ℕ → List ℕ
lanes_round nexts l =
    filter_map (follow nexts l)
    (filter (λ k. nat_le k (unwrap_or (way_back nexts l) 0)) (range_with_len 0 (length nexts)))

abbrev pub circle_note : List (Option ℕ) → ℕ → NoteFacts
circle_note nexts l =
    record { told = Told.Circle l; further = Lanes (lanes_round nexts l); place = None }

-- the first lane that waits in a circle
abbrev pub circle_start : List (Option ℕ) → Option ℕ
circle_start nexts =
    find (λ l. is_some (way_back nexts l)) (range_with_len 0 (length nexts))

abbrev pub circle_notes : List (Option ℕ) → List NoteFacts
circle_notes nexts = option_to_list (option_map (circle_note nexts) (circle_start nexts))

-- ---- all of them

-- the groups one after another
unfoldable pub halted_notes : Plan → List LaneLines → List (Option ℕ) → (ℕ → ℕ)
    → List NoteFacts
halted_notes p ls nexts at =
    group_notes p ls nexts at Group.Unpublished ++ (group_notes p ls nexts at Group.Circle
    ++ (group_notes p ls nexts at Group.Behind ++ circle_notes nexts))

abbrev pub stuck_notes : Universe → Plan → List LaneLines → (ℕ → ℕ) → List NoteFacts
stuck_notes u p ls at = halted_notes p ls (nexts u p at) at

pub record ShowsStuck (u : Universe) (p : Plan) (ls : List LaneLines) (notes : List NoteFacts) :
    Type 0 where
  pub order : List ℕ
  pub ats : List Standing
  pub standing : AreStanding u p ats
  pub settled : IsSettled u p order ats
  pub shown : notes ≡ stuck_notes u p ls (place_of ats)

-- ---- they are on the lanes of the refusal

-- the name of the lane that a note is on, if any
abbrev pub lane_of : NoteFacts → Option (List ℕ)
lane_of note = option_map (λ (place : PlaceFacts). place.lane) note.place

-- on one of these lanes, if on any
abbrev pub IsAmong : List (List ℕ) → NoteFacts → Type 0
IsAmong names note = IfSome (lane_of note) (λ name. Contains names name)

-- a note is on the lane of this name
abbrev pub HasNote : List NoteFacts → List ℕ → Type 0
HasNote notes name = (note : NoteFacts) × Contains notes note × (lane_of note ≡ Some name)

pub record AreOn (names : List (List ℕ)) (notes : List NoteFacts) : Type 0 where
  pub among : All (IsAmong names) notes
  pub each : All (HasNote notes) names

-- so are those of a plan that is refused for stuck lanes
abbrev pub NotesAreOnTheStuck : Type 0
NotesAreOnTheStuck =
    (u : Universe) (p : Plan) (ls : List LaneLines) (names : List (List ℕ)) (notes : List NoteFacts)
    → AreStuckLanes u p names → ShowsStuck u p ls notes → AreOn names notes
