-- The archive has what a lane knows.
use Rattle.std.proofs.Common.{◌≡◌, ℕ, suc, ◌<◌, Bool, true, false, ◌&&◌, ◌||◌, inl, inr, List, [], ◌∷◌, ◌++◌, length, take, Option, Some, slice_get, refl, sym, ap, ◌∙◌, subst, take_all}
use Rattle.std.proofs.Math.Bool.{or-false}
use Rattle.std.proofs.lemmas.Bool.{both_ways, false≢true, or_cases, or_left, or_right, and_parts, and_from, eq-eqb}
use Rattle.deb_relation.specs.declared.operator.Op.{Op}
use Rattle.farm_model.specs.Common.{some_below, Universe, variant, same, contains, names, variants, outputs, is_wanted, satisfies_entry, initial, some_variant}
use Rattle.farm_model.specs.declared.types.Variant.{Variant}
use Rattle.farm_model.proofs.BelowLaws.{some_below-found}
use Rattle.plan_model.specs.Common.{Side, Outside, InFirst, InSecond, side_behind_some, side_at, home, IsBranched, landing, Plan, else_place, lane, instruction_at, has_wanted, LaneState, Turn, Goes, Gives, Waits, Ends, Fails, publication, archive, State, start, lane_state, Moved, step, possible, publishing, Rows, IsFact, is_of, Adds, row_before, KeepsRows, IsSound}
use Rattle.plan_model.specs.declared.instructions.Instruction.{Instruction}
use Rattle.plan_model.specs.declared.instructions.Instruction.TheVariants.{Publish, Wait, When, Otherwise, EndWhen}
use Rattle.farm_laws.proofs.Steps.{put, put_output, turn_at, After, step_keeps}
use Rattle.farm_laws.proofs.Places.{IsQuiet, IsWhen, Holds, GoesOn, GivesOne, PlaceMove, turn_place}
use Rattle.farm_laws.proofs.Branches.{IsStand, landed, else_behind, past_end-outside}
use Rattle.farm_laws.specs.EventsLeft.{InPlaces}
use Rattle.farm_laws.proofs.EventsLeft.{put_each, step_places, places_at_start, state_at_start}
use Rattle.farm_laws.proofs.Archive.{same-true, archive-push, made_before, made_by, made_by-zero, made_goes, made_gives, contains-more, publishing-quiet}
use Rattle.farm_laws.proofs.Possible.{ArchiveIs, archive_goes, archive_gives, nothing_else, initial_there}

some_variant-found : (u : Universe) (p : Variant → Bool) → some_variant u p ≡ true
    → (v : Variant) × (p v ≡ true)
some_variant-found u p e =
    let a = some_below-found (names u) (λ n. some_below (variants u n) (λ b. p (variant n b))) e in
    let b = some_below-found (variants u a.0) (λ b. p (variant a.0 b)) a.2 in (variant a.0 b.0, b.2)

-- what a `when` that holds has found
wanted-found : (u : Universe) (there : Variant → Bool) (name : ℕ) (wanted : Option (Op × List ℕ))
    → has_wanted u there name wanted ≡ true
    → (c : Variant) × (there c ≡ true) × (is_of u name wanted c ≡ true)
unfolding has_wanted
wanted-found u there name wanted e =
    let b = some_below-found (variants u name)
    (λ b. there (variant name b) && is_wanted u wanted (variant name b)) e in
    let parts = and_parts (there (variant name b.0)) (is_wanted u wanted (variant name b.0)) b.2 in
    (variant name b.0, parts.0, and_from _ _ (eq-eqb name name refl) parts.1)

module _ (u : Universe) (p : Plan) (rows : Rows) (keeps : KeepsRows u p rows) where
  -- the archive has lane l's row of a place
  abbrev Knows : (Variant → Bool) → ℕ → ℕ → Type 0
  Knows there l k = (v : Variant) → rows l k v ≡ true → there v ≡ true

  -- and, inside a branch, that of its `when`, which holds again behind the `end`
  abbrev pub KnowsAt : (Variant → Bool) → ℕ → ℕ → Type 0
  KnowsAt there l k = Knows there l k
      × Knows there l (home (side_at (lane p l).instructions k) k)

  module _ (there : Variant → Bool) (l : ℕ) (h : l < length p)
      (branched : IsBranched (lane p l).instructions) where
    abbrev is : List Instruction
    is = (lane p l).instructions

    side_is : (s : Side) (k : ℕ) → side_at is k ≡ s → KnowsAt there l k → Knows there l (home s k)
    side_is s k e known = subst (λ t. Knows there l (home t k)) e known.1

    -- behind an `else` or an `end` is known what was ahead of their `when`
    behind_last : (x : Instruction) (w k : ℕ) → slice_get is k ≡ Some x
        → ((v : Variant) → Adds u p rows l k v x → ⊥) → row_before p l k x ≡ w → Knows there l w
        → Knows there l (suc k)
    behind_last x w k e none from known v now =
        elim (keeps.after l k x v h e now) [
          | inl old ↦
              known v (subst (λ j. rows l j v ≡ true) from old)
          | inr new ↦ absurd (none v new)
        ]

    behind_end : (w k : ℕ) → side_at is k ≡ InSecond w → slice_get is k ≡ Some EndWhen
        → Knows there l w → KnowsAt there l (suc k)
    behind_end w k s e known =
        let now = behind_last EndWhen w k e (λ v a. a) (ap (λ t. home t k) s) known in
        let out = past_end-outside is branched k e in
        (now, subst (λ t. Knows there l (home t (suc k))) (sym out) now)

    behind_else : (w k : ℕ) → side_at is k ≡ InFirst w → slice_get is k ≡ Some Otherwise
        → Knows there l w → KnowsAt there l (suc k)
    behind_else w k s e known =
        let now = behind_last Otherwise w k e (λ v a. a) (ap (λ t. home t k) s) known in
        let second : side_at is (suc k) ≡ InSecond w =
        ap (side_behind_some k (side_at is k)) e
        ∙ ap (λ t. side_behind_some k t (Some Otherwise)) s in
        (now, subst (λ t. Knows there l (home t (suc k))) (sym second) known)

    -- where a lane goes on it knows no more than where it comes to
    lands : (k : ℕ) → KnowsAt there l k → KnowsAt there l (landing is k)
    lands =
        landed is branched (KnowsAt there l) (λ w j. Knows there l w) (KnowsAt there l)
        (λ j s known. known) (λ w j s e known. side_is (InFirst w) j s known)
        (λ w j x e s inner known. known) (λ w j s e known. behind_end w j s e known)
        (λ w j s e known. behind_end w j s e (side_is (InSecond w) j s known))

    in_second : (k name : ℕ) (wanted : Option (Op × List ℕ))
        → slice_get is k ≡ Some (When name wanted) → Knows there l k
        → KnowsAt there l (else_place (lane p l) k)
    in_second k name wanted e known =
        let found = else_behind is branched k name wanted e (λ j. Unit {0})
        (λ j x at s inner q. tt) tt in
        lands _ (subst (KnowsAt there l) (sym found.place)
        (behind_else k found.at found.side found.is known))

    -- behind an instruction, where its own row is there
    behind : (k : ℕ) (x : Instruction) → slice_get is k ≡ Some x → IsStand (Some x)
        → KnowsAt there l k → Knows there l (suc k) → KnowsAt there l (suc k)
    behind k x e stand known now = (
      now,
      subst (λ o. Knows there l (home (side_behind_some k (side_at is k) o) (suc k)))
          (sym e) (by x stand (side_at is k) refl),
    )
      where
        same : (s : Side) → side_at is k ≡ s → Knows there l (home s (suc k))
        same Outside s = now
        same (InFirst w) s = side_is (InFirst w) k s known
        same (InSecond w) s = side_is (InSecond w) k s known

        by : (y : Instruction) → IsStand (Some y) → (s : Side) → side_at is k ≡ s
            → Knows there l (home (side_behind_some k s (Some y)) (suc k))
        by (When name wanted) a s e = known.0
        by Otherwise a s e = absurd a
        by EndWhen a s e = absurd a
        by _ a s e = same s e

  -- claim: each lane's row is in the archive, and with each variant what follows from it
  pub record RowsThere (s : State) : Type 0 where
    pub knows : (l : ℕ) → l < length p → KnowsAt (archive u s.published) l (lane_state s l).done
    pub follows : (c v : Variant) → archive u s.published c ≡ true → IsFact u p rows c v
        → archive u s.published v ≡ true

  -- what an instruction that goes on adds to its lane's row is in the archive
  adds_quiet : (s : State) (l : ℕ) (v : Variant) (x : Instruction) → l < length p → ArchiveIs u p s
      → RowsThere s
      → ((c : Variant) → archive u s.published c ≡ true
      → possible u p l (lane_state s l).done c ≡ true)
      → IsQuiet u (archive u s.published) x → Holds u (archive u s.published) x
      → Adds u p rows l (lane_state s l).done v x
      → archive u s.published v ≡ true
  adds_quiet s l v (Publish recipe) h a r reach q w add = absurd q
  adds_quiet s l v (Wait e) h a r reach q w add =
      let c = some_variant-found u (λ w. archive u s.published w && satisfies_entry u e w) q in
      let parts = and_parts (archive u s.published c.0) (satisfies_entry u e c.0) c.1 in
      r.follows c.0 v parts.0 (add.1 c.0 (reach c.0 parts.0) parts.1)
  adds_quiet s l v (When name wanted) h a r reach q w add =
      let c = wanted-found u (archive u s.published) name wanted w in
      r.follows c.0 v c.1 (add.1 c.0 (reach c.0 c.1) c.2)
  adds_quiet s l v _ h a r reach q w add = absurd add

  pub possible_at_zero : (s : State) (l : ℕ) (c : Variant) → l < length p → ArchiveIs u p s
      → ((v : Variant) → publishing u (instruction_at p l (lane_state s l).done)
      (lane_state s l).made v ≡ false)
      → archive u s.published c ≡ true → possible u p l (lane_state s l).done c ≡ true
  possible_at_zero s l c h a none e =
      elim (nothing_else u p s l c h a e) [
        | inl may ↦ may
        | inr now ↦
            absurd (both_ways _ (none c) now)
      ]

  quiet-stands : (there : Variant → Bool) (x : Instruction) → IsQuiet u there x → IsStand (Some x)
  quiet-stands there Otherwise q = absurd q
  quiet-stands there EndWhen q = absurd q
  quiet-stands there _ q = tt

  stands-from : (l k : ℕ) (x : Instruction) → IsStand (Some x) → row_before p l k x ≡ k
  stands-from l k Otherwise a = absurd a
  stands-from l k EndWhen a = absurd a
  stands-from l k _ a = refl

  -- the row behind an instruction that goes on
  row_behind : (s : State) (l : ℕ) (next : LaneState) → l < length p → ArchiveIs u p s
      → RowsThere s
      → (g : GoesOn u (archive u s.published) (lane p l) (lane_state s l)
      (instruction_at p l (lane_state s l).done) next)
      → Holds u (archive u s.published) g.instruction
      → Knows (archive u s.published) l (suc (lane_state s l).done)
  row_behind s l next h a r g holds v e =
      let none : (v : Variant) → publishing u (instruction_at p l (lane_state s l).done)
      (lane_state s l).made v ≡ false =
      λ v. rw g.is (publishing-quiet u (archive u s.published) g.instruction
      (lane_state s l).made v g.quiet) in
      let from = stands-from l (lane_state s l).done g.instruction
      (quiet-stands (archive u s.published) g.instruction g.quiet) in
      elim (keeps.after l (lane_state s l).done g.instruction v h g.is e) [
        | inl old ↦ (r.knows l h).0 v (subst (λ j. rows l j v ≡ true) from old)
        | inr new ↦ adds_quiet s l v g.instruction h a r
            (λ c there. possible_at_zero s l c h a none there) g.quiet holds new
      ]

  knows_goes : (s : State) (l : ℕ) (next : LaneState) → l < length p
      → IsBranched (lane p l).instructions → ArchiveIs u p s → RowsThere s
      → GoesOn u (archive u s.published) (lane p l) (lane_state s l)
      (instruction_at p l (lane_state s l).done) next → KnowsAt (archive u s.published) l next.done
  knows_goes s l next h branched a r g =
      let there = archive u s.published in
      elim g.place [
        | inl first ↦ subst (KnowsAt there l) (sym first.1)
            (lands there l h branched (suc (lane_state s l).done)
            (behind there l h branched (lane_state s l).done g.instruction g.is
            (quiet-stands there g.instruction g.quiet) (r.knows l h)
            (row_behind s l next h a r g first.0)))
        | inr second ↦ subst (KnowsAt there l) (sym second.1) (by g.instruction g.is second.0)
      ]
    where
      by : (x : Instruction) → instruction_at p l (lane_state s l).done ≡ Some x → IsWhen x
          → KnowsAt (archive u s.published) l (else_place (lane p l) (lane_state s l).done)
      by (When name wanted) e w = in_second (archive u s.published) l h branched
          (lane_state s l).done name wanted e (r.knows l h).0
      by _ e w = absurd w

  rows_goes : (s : State) (l : ℕ) (next : LaneState) → l < length p
      → IsBranched (lane p l).instructions → length s.lanes ≡ length p
      → ArchiveIs u p s → RowsThere s
      → GoesOn u (archive u s.published) (lane p l) (lane_state s l)
      (instruction_at p l (lane_state s l).done) next → RowsThere (put s l next)
  rows_goes s l next h branched long a r g =
      record {
        knows = put_each p (λ i (x : LaneState). KnowsAt (archive u s.published) i x.done) s l next
            long h r.knows (knows_goes s l next h branched a r g);
        follows = r.follows;
      }

  follows_output : (s : State) (l r m : ℕ) (v w : Variant) → l < length p → ArchiveIs u p s
      → RowsThere s → instruction_at p l (lane_state s l).done ≡ Some (Publish r)
      → (lane_state s l).made ≡ m → slice_get (outputs u r) m ≡ Some v
      → contains (take (suc m) (outputs u r)) w ≡ true
      → (archive u s.published w || same v w) ≡ true
  follows_output s l r m v w h a there at made is e =
      elim (or_cases _ _ (sym (contains-more (outputs u r) m v w is) ∙ e)) [
        | inl old ↦ let now : publishing u (instruction_at p l (lane_state s l).done)
            (lane_state s l).made w ≡ true = rw (at, made) old in
            or_left _ _ (a.all l w h (or_right _ _ now))
        | inr new ↦ or_right _ _ new
      ]

  rows_gives : (s : State) (l : ℕ) (next : LaneState) (v : Variant) → l < length p
      → IsBranched (lane p l).instructions → length s.lanes ≡ length p → ArchiveIs u p s
      → RowsThere s
      → GivesOne u (lane p l) (lane_state s l) (instruction_at p l (lane_state s l).done) next v
      → RowsThere (put_output s l next v)
  rows_gives s l next v h branched long a r g =
      let k = (lane_state s l).done in
      let now : Variant → Bool = archive u (s.published ++ publication l v ∷ []) in
      let more : (w : Variant) → (archive u s.published w || same v w) ≡ true
      → now w ≡ true =
      λ w e. archive-push u s.published l v w ∙ e in
      let grown : (i j : ℕ) → KnowsAt (archive u s.published) i j → KnowsAt now i j =
      λ i j known. (
        λ w e. more w (or_left _ _ (known.0 w e)),
        λ w e. more w (or_left _ _ (known.1 w e)),
      ) in
      let outs = outputs u g.recipe in
      let made : (w : Variant) → contains (take (suc (lane_state s l).made) outs) w ≡ true
      → now w ≡ true =
      λ w e. more w (follows_output s l g.recipe
      (lane_state s l).made v w h a r g.is refl g.output e) in
      let ahead = grown l k (r.knows l h) in
      let own : KnowsAt now l next.done =
      elim g.place [
        | inl m ↦ subst (KnowsAt now l) (sym m.1) ahead
        | inr m ↦ subst (KnowsAt now l) (sym m.1)
            (lands now l h branched (suc k) (behind now l h branched k (Publish g.recipe) g.is tt
            ahead (λ w e. elim (keeps.after l k (Publish g.recipe) w h g.is e) [
              | inl old ↦ ahead.0 w old
              | inr new ↦ made w (rw (take_all (suc (lane_state s l).made) outs m.0) new)
            ])))
      ] in
      record {
        knows = put_each p (λ i (x : LaneState). KnowsAt now i x.done) s l next long h
            (λ i b. grown i (lane_state s i).done (r.knows i b)) own;
        follows = λ c w there f.
            elim (or_cases _ _ (sym (archive-push u s.published l v c) ∙ there)) [
              | inl old ↦ more w (or_left _ _ (r.follows c w old f))
              | inr new ↦ elim (f.from_output l k g.recipe
                  (lane_state s l).made h g.is (g.output ∙ ap Some (same-true v c new))) [
                    | inl row ↦ ahead.0 w row
                    | inr m ↦ made w m
                  ]
            ];
      }

  -- the facts of every reachable state that do not speak of chroots
  pub record ArchiveHolds (s : State) : Type 0 where
    pub places : InPlaces u p s
    pub archive_is : ArchiveIs u p s
    pub rows_there : RowsThere s

  abbrev AfterArchive : State → ℕ → Turn → Type 0
  AfterArchive s l m = After (λ t. ArchiveIs u p t × RowsThere t) s l m

  archive_moves : (s : State) (l : ℕ) (m : Turn) → l < length p
      → IsBranched (lane p l).instructions → ArchiveHolds s
      → PlaceMove u (archive u s.published) (lane p l) (lane_state s l)
      (instruction_at p l (lane_state s l).done) m → AfterArchive s l m
  archive_moves s l (Goes next) h b a g = (
    archive_goes u p s l next a.places.long h
        (λ v. made_goes u (archive u s.published) (lane p l) b
        (lane_state s l) next v g) a.archive_is,
    rows_goes s l next h b a.places.long a.archive_is a.rows_there g,
  )
  archive_moves s l (Gives next v) h b a g = (
    archive_gives u p s l next v a.places.long h
        (λ w. made_gives u (lane p l) b (lane_state s l) next v w g) a.archive_is,
    rows_gives s l next v h b a.places.long a.archive_is a.rows_there g,
  )
  archive_moves s l Waits h b a g = tt
  archive_moves s l Ends h b a g = tt
  archive_moves s l (Fails t) h b a g = tt

  pub archive_stays : IsSound u p → (s t : State) (l : ℕ) → ArchiveHolds s
      → step u p s l ≡ Moved t → ArchiveHolds t
  unfolding turn_at
  archive_stays sound s t l a e =
      let r = step_keeps u p (λ t. ArchiveIs u p t × RowsThere t) s t l e
      (λ h. archive_moves s l (turn_at u p s l) h (sound.plan.branched l h) a
      (turn_place u (archive u s.published) (lane p l) (lane_state s l)
      (instruction_at p l (lane_state s l).done))) in
      record {
        places = (step_places u p sound s t l a.places e).0;
        archive_is = r.0;
        rows_there =
            r.1;
      }

  pub archive_at_start : IsSound u p → ArchiveHolds (start u p)
  unfolding archive made_before
  archive_at_start sound =
      record {
        places = places_at_start u p sound;
        archive_is = record {
          only = λ v e. inl (sym (or-false (initial u v)) ∙ e);
          all = λ j v lt e. absurd (false≢true
              (sym (ap (λ (x : LaneState). made_by u (lane p j).instructions x.done x.made v)
              (state_at_start u p sound j lt) ∙ made_by-zero u (lane p j).instructions 0 v) ∙ e));
        };
        rows_there = record {
          knows = λ l lt.
              let first : Knows (archive u []) l 0 = λ v e. initial_there u p [] v
              (keeps.at_start l v lt e) in
              rw (state_at_start u p sound l lt) (first, first);
          follows = λ c v there f. initial_there u p [] v
              (f.from_start (sym (or-false (initial u c)) ∙ there));
        };
      }
