-- The least numbers that lanes may ask for, while their words are made.
use Rattle.std.proofs.Common.{◌≡◌, ◌<◌, ◌≤◌, ◌+◌, ℕ, zero, suc, true, List, [], ◌∷◌, ◌++◌, length, inl, inr, refl, sym, ap, subst, ◌∙◌, arith, add-one}
use Rattle.std.specs.Prelude.{map, slice_index_or}
use Rattle.std.proofs.lemmas.Bool.{cases_eq}
use Rattle.drive_replay.specs.LaneNotes.{LaneNotes, note_at}
use Rattle.drive_run.specs.DoneBefore.{AreBelow, IsDoneBefore, leasts}
use Rattle.drive_run.specs.declared.known.LaneWords.{LaneWords}
use Rattle.plan_model.specs.Plan.{Plan, lane}

-- of the first lanes
abbrev pub AreBelowIn : Plan → LaneNotes → ℕ → List LaneWords → Type 0
AreBelowIn p notes count words =
    (l n : ℕ) → l < count → n ≤ length (lane p l).instructions → (note_at notes l n).done ≡ true
    → n < slice_index_or (leasts words) l 0

before_last : (words : List LaneWords) (w : LaneWords) (l : ℕ) → l < length words
    → slice_index_or (leasts (words ++ w ∷ [])) l 0 ≡ slice_index_or (leasts words) l 0
before_last [] w l there = absurd (omega (arith, there))
before_last (x ∷ words) w zero there = refl
before_last (x ∷ words) w (suc l) there = before_last words w l (omega (arith, there))

at_last : (words : List LaneWords) (w : LaneWords)
    → slice_index_or (leasts (words ++ w ∷ [])) (length words) 0 ≡ w.least
at_last [] w = refl
at_last (x ∷ words) w = at_last words w

pub none_below : (p : Plan) (notes : LaneNotes) (words : List LaneWords)
    → AreBelowIn p notes 0 words
none_below p notes words l n there = absurd (omega (arith, there))

pub more_below : (p : Plan) (notes : LaneNotes) (count : ℕ) (words : List LaneWords)
    (w : LaneWords) → length words ≡ count → AreBelowIn p notes count words
    → ((n : ℕ) → n < length (lane p count).instructions + 1 → (note_at notes count n).done ≡ true
    → n < w.least) → AreBelowIn p notes (count + 1) (words ++ w ∷ [])
more_below p notes count words w long so_far last l n there within done =
    elim (cases_eq l count) [
      | inl here ↦
          let within' : n < length (lane p count).instructions + 1 =
          omega (arith, subst (λ k. n ≤ length (lane p k).instructions) here within) in
          let least : n < w.least =
          last n within' (subst (λ k. (note_at notes k n).done ≡ true) here done) in
          let place : slice_index_or (leasts (words ++ w ∷ [])) l 0 ≡ w.least =
          ap (λ k. slice_index_or (leasts (words ++ w ∷ [])) k 0) (here ∙ sym long)
          ∙ at_last words w in
          omega (arith, least, place)
      | inr other ↦
          let before : l < count = omega (arith, there, other) in
          let place = before_last words w l (omega (arith, before, long)) in
          omega (arith, place, so_far l n before within done)
    ]
