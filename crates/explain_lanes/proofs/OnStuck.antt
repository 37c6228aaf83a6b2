-- The notes on stuck lanes are on the lanes of the refusal.
use Rattle.std.proofs.Common.{◌≡◌, inl, inr, ℕ, zero, suc, ◌<◌, Bool, true, false, nat_lt, not, List, [], ◌++◌, length, map, filter, ◌&&◌, is_some, Option, Some, None, All, Contains, refl, sym, ap, subst, ◌∙◌, add-one, arith, get_or, option_and_then, option_map, option_to_list}
use Rattle.std.specs.List.{range_with_len}
use Rattle.std.proofs.lemmas.Bool.{and_from, and_parts, cases_Bool, false≢true, lt-ltb, ltb-true}
use Rattle.std.proofs.lemmas.Option.{slice_get_within}
use Rattle.std.proofs.lemmas.List.{get_or-map, length-map}
use Rattle.std.proofs.lemmas.List.Elements.{All-append, All-cons, All-map, All-nil, Contains-append_left, Contains-append_right, filter_passes}
use Rattle.farm_model.specs.Universe.{Universe}
use Rattle.plan_reader.specs.PlanLines.{LaneLines}
use Rattle.plan_model.specs.Common.{AreStuck, Plan, lane, instruction_at}
use Rattle.plan_model.specs.declared.instructions.Instruction.{Instruction}
use Rattle.plan_model.specs.declared.instructions.Instruction.TheVariants.{Wait}
use Rattle.plan_verifier.specs.Verdict.{AreStuckLanes}
use Rattle.explain_reasons.specs.Listed.{all_below, one_if}
use Rattle.verdict_laws.proofs.StuckOne.{stuck_are_one}
use Rattle.verdict_laws.proofs.Unions.{there}
use Rattle.wait_order.proofs.Ends.{filter_next, stuck_found}
use Rattle.wait_order.specs.Standing.{Holds, place_of}
use Rattle.explain_lanes.proofs.Below.{All-all_below, Contains-all_below}
use Rattle.explain_lanes.specs.declared.note.Group.{Group}
use Rattle.explain_lanes.specs.Notes.{NoteFacts}
use Rattle.explain_lanes.specs.Stuck.{AreOn, HasNote, IsAmong, NotesAreOnTheStuck, ShowsStuck, awaited, circle_note, circle_notes, circle_start, entry_of, group_notes, halted_notes, lane_note, next_of, nexts, stands_in, wait_at, way_back}

-- a wait stands ahead of its lane's end
pub within : (p : Plan) (l i : ℕ) → is_some (wait_at p l i) ≡ true
    → i < length (lane p l).instructions
within p l i waits = by (instruction_at p l i) refl waits
  where
    by : (x : Option Instruction) → instruction_at p l i ≡ x
        → is_some (option_and_then entry_of x) ≡ true → i < length (lane p l).instructions
    by None here none = absurd (false≢true none)
    by (Some x) here some = slice_get_within (lane p l).instructions i x here

-- where a test passes, the one is there; and what holds of it then holds of the list
one : {A : Type 0} (t : Bool) (x : A) → t ≡ true → Contains (one_if t x) x
one t x is = rw is (0, omega arith, refl)

of_one : {A : Type 0} (P : A → Type 0) (t : Bool) (x : A) → (t ≡ true → P x) → All P (one_if t x)
of_one P true x holds = All-cons P x [] (holds refl) (All-nil P)
of_one P false x holds = All-nil P

-- a number below n that passes is among those that do
passes : (g : ℕ → Bool) (n l : ℕ) → l < n → g l ≡ true → Contains (filter g (range_with_len 0 n)) l
passes g n l lt is =
    subst (λ xs. Contains xs l) (sym (those_are n))
    (Contains-all_below n l (λ k. one_if (g k) k) l lt (one (g l) l is))
  where
    those_are : (m : ℕ) → filter g (range_with_len 0 m) ≡ all_below m (λ k. one_if (g k) k)
    those_are zero = refl
    those_are (suc m) =
        ap (λ k. filter g (range_with_len 0 k)) (sym (add-one m)) ∙ filter_next g m
        ∙ ap (λ xs. xs ++ one_if (g m) m) (those_are m)

contains-map : {A B : Type 0} (f : A → B) (xs : List A) (x : A) → Contains xs x
    → Contains (map f xs) (f x)
contains-map f xs x (k, lt, is) =
    (k, omega (arith, lt, length-map xs f), get_or-map f xs k x (f x) lt ∙ ap f is)

-- ---- the notes

module _ (u : Universe) (p : Plan) (ls : List LaneLines) (at : ℕ → ℕ) where
  abbrev all : List NoteFacts
  all = halted_notes p ls (nexts u p at) at

  abbrev waits : ℕ → Bool
  waits l = is_some (awaited p at l)

  abbrev in_group : Group → ℕ → Bool
  in_group = stands_in (nexts u p at)

  abbrev of_group : Group → List NoteFacts
  of_group = group_notes p ls (nexts u p at) at

  abbrev note : Group → ℕ → NoteFacts
  note group l = lane_note p ls (nexts u p at) group l (at l)

  abbrev name : ℕ → List ℕ
  name l = (lane p l).name

  -- a lane stands in some group
  some_group : (l : ℕ) → (group : Group) × (in_group group l ≡ true)
  some_group l =
      elim (cases_Bool (is_some (way_back (nexts u p at) l))) [
        | inl back ↦ (Group.Circle, back)
        | inr none ↦ elim (cases_Bool (is_some (next_of (nexts u p at) l))) [
          | inl some ↦ (Group.Behind, and_from _ _ some (ap not none))
          | inr nobody ↦ (Group.Unpublished, ap not nobody)
        ]
      ]

  -- all notes have those of a group
  in_notes : (group : Group) (x : NoteFacts) → Contains (of_group group) x → Contains all x
  unfolding halted_notes
  in_notes Group.Unpublished x is = search Contains-append_left
  in_notes Group.Circle x is = search (Contains-append_left, Contains-append_right)
  in_notes Group.Behind x is = search (Contains-append_left, Contains-append_right)

  -- so a lane that waits has its note
  noted : (l : ℕ) → l < length p → waits l ≡ true → HasNote all (name l)
  noted l lt is =
      let g = some_group l in (
        note g.0 l,
        in_notes g.0 (note g.0 l) (Contains-all_below (length p) l
            (λ k. one_if (waits k && in_group g.0 k) (note g.0 k)) (note g.0 l) lt
            (one (waits l && in_group g.0 l) (note g.0 l) (and_from _ _ is g.1))),
        refl,
      )

  -- notes are on lanes that wait alone
  module _ (names : List (List ℕ))
      (named : (l : ℕ) → l < length p → waits l ≡ true → Contains names (name l)) where
    abbrev IsOne : NoteFacts → Type 0
    IsOne = IsAmong names

    group_among : (group : Group) → All IsOne (of_group group)
    group_among group =
        All-all_below IsOne (length p) (λ l. one_if (waits l && in_group group l) (note group l))
        (λ l lt. of_one IsOne (waits l && in_group group l) (note group l)
        (λ is. named l lt (and_parts (waits l) (in_group group l) is).0))

    circle_among : All IsOne (circle_notes (nexts u p at))
    circle_among = by (circle_start (nexts u p at))
      where
        by : (found : Option ℕ)
            → All IsOne (option_to_list (option_map (circle_note (nexts u p at)) found))
        by None = All-nil IsOne
        by (Some l) = All-cons IsOne (circle_note (nexts u p at) l) [] tt (All-nil IsOne)

    among : All IsOne all
    unfolding halted_notes
    among =
        All-append IsOne (of_group Group.Unpublished) _ (group_among Group.Unpublished)
        (All-append IsOne (of_group Group.Circle) _ (group_among Group.Circle)
        (All-append IsOne (of_group Group.Behind) _ (group_among Group.Behind) circle_among))

-- ---- the stuck lanes

-- an instruction that holds is a wait
awaits : (u : Universe) (row : List ℕ) (x : Instruction) → Holds u row x
    → is_some (entry_of x) ≡ true
awaits u row (Wait e) holds = refl
awaits u row _ holds = absurd holds

module _ (u : Universe) (p : Plan) (ls : List LaneLines) (names : List (List ℕ))
    (notes : List NoteFacts) (is : AreStuckLanes u p names) (shows : ShowsStuck u p ls notes) where
  abbrev at : ℕ → ℕ
  at = place_of shows.ats

  abbrev goes_on : ℕ → Bool
  goes_on l = nat_lt (at l) (length (lane p l).instructions)

  -- the lanes that stand ahead of their ends
  abbrev those : List ℕ
  those = filter goes_on (range_with_len 0 (length p))

  abbrev name_of : ℕ → List ℕ
  name_of = name u p ls at

  -- are stuck, so they are the lanes of the refusal
  stuck : AreStuck u p those
  stuck =
      stuck_found u p shows.order shows.ats shows.ats shows.standing shows.settled refl those refl

  names_are : names ≡ map name_of those
  names_are = is.named ∙ ap (map name_of) (stuck_are_one u p is.lanes those is.stuck stuck)

  -- and these are those that wait
  named : (l : ℕ) → l < length p → is_some (awaited p at l) ≡ true → Contains names (name_of l)
  named l lt waiting =
      subst (λ xs. Contains xs (name_of l)) (sym names_are)
      (contains-map name_of those l
      (passes goes_on (length p) l lt
      (lt-ltb (at l) (length (lane p l).instructions) (within p l (at l) waiting))))

  waiting : (l : ℕ) → l < length p → goes_on l ≡ true → is_some (awaited p at l) ≡ true
  waiting l lt on =
      let x = there p l (at l) (ltb-true (at l) (length (lane p l).instructions) on) in
      ap (λ found. is_some (option_and_then entry_of found)) x.1
      ∙ awaits u shows.settled.there x.0 (shows.settled.held l lt x.0 x.1)

  abbrev Noted : List ℕ → Type 0
  Noted = HasNote (all u p ls at)

  each_noted : All (λ l. Noted (name_of l)) those
  each_noted k d lt =
      let l = get_or those k d in
      let in_plan = (stuck.stuck k d lt).0 in
      noted u p ls at l in_plan
      (waiting l in_plan (filter_passes goes_on (range_with_len 0 (length p)) k d lt))

  are_on : AreOn names notes
  are_on = record {
    among = subst (All (IsAmong names)) (sym shows.shown) (among u p ls at names named);
    each = subst (λ ns. All (HasNote ns) names) (sym shows.shown)
        (subst (All Noted) (sym names_are) (All-map Noted name_of those each_noted));
  }

pub notes_are_on_the_stuck : NotesAreOnTheStuck
notes_are_on_the_stuck = are_on
