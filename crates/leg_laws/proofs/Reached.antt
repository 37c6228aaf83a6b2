-- What a state that is reached has published: outputs, each once.
use Rattle.std.proofs.Common.{◌≡◌, ℕ, zero, suc, ◌<◌, Bool, true, false, ◌⊎◌, inl, inr, List, [], ◌∷◌, ◌++◌, length, take, Some, None, slice_get, refl, sym, ap, ◌∙◌, subst, arith}
use Rattle.std.specs.List.{list_any}
use Rattle.std.proofs.lemmas.Bool.{false≢true, both_ways, or_cases, or_right}
use Rattle.std.proofs.lemmas.Option.{none-some, same_Some, slice_get_within, get_or_from_slice_get}
use Rattle.farm_model.specs.declared.types.Variant.{Variant}
use Rattle.farm_model.specs.Common.{Universe, contains, outputs, initial, IsKnown, same}
use Rattle.plan_model.specs.declared.instructions.Instruction.{Instruction}
use Rattle.plan_model.specs.declared.instructions.Instruction.TheVariants.{Publish}
use Rattle.plan_model.specs.Common.{Plan, lane, instruction_at, outputs_of, LaneState, Turn, Goes, Gives, Waits, Ends, Fails, Publication, publication, State, start, lane_state, Moved, step, Reachable, Rows, KeepsRows, gives, publishing, IsSound, archive}
use Rattle.farm_laws.proofs.Archive.{same-true, same-refl, list_any-some, made_before, made_by}
use Rattle.farm_laws.proofs.KnownRows.{ArchiveHolds, archive_stays, archive_at_start}
use Rattle.farm_laws.proofs.Places.{GivesOne, PlaceMove, turn_place}
use Rattle.farm_laws.proofs.Steps.{put_output, turn_at, After, step_keeps, run_keeps}
use Rattle.leg_laws.specs.Laws.{EachOnce}

-- rows that know nothing keep to the inclusions
abbrev pub no_rows : Rows
no_rows l i v = false

pub no_rows_keep : (u : Universe) (p : Plan) → KeepsRows u p no_rows
no_rows_keep u p =
    record {
      at_start = λ l v lt e. absurd (false≢true e);
      after = λ l i x v lt at e. absurd (false≢true e);
    }

-- the element that passes, and its place
pub any_found : {X : Type 0} (test : X → Bool) (xs : List X) → list_any test xs ≡ true
    → (i : ℕ) × (x : X) × (slice_get xs i ≡ Some x) × (test x ≡ true)
any_found test [] e = absurd (false≢true e)
any_found test (x ∷ xs) e =
    elim (or_cases (test x) _ e) [
      | inl here ↦ (0, x, refl, here)
      | inr there ↦ let r = any_found test xs there in (suc r.0, r.1, r.2, r.3)
    ]

-- the same among the first elements
pub any_found-take : {X : Type 0} (test : X → Bool) (n : ℕ) (xs : List X)
    → list_any test (take n xs) ≡ true
    → (i : ℕ) × (x : X) × (i < n) × (slice_get xs i ≡ Some x) × (test x ≡ true)
any_found-take test zero xs e = absurd (false≢true e)
any_found-take test (suc n) [] e = absurd (false≢true e)
any_found-take test (suc n) (x ∷ xs) e =
    elim (or_cases (test x) _ e) [
      | inl here ↦ (0, x, omega arith, refl, here)
      | inr there ↦ let r = any_found-take test n xs there in
          (suc r.0, r.1, omega (arith, r.2), r.3, r.4)
    ]

-- an element of a list with one more at its end
pub get-pushed : {X : Type 0} (xs : List X) (x a : X) (i : ℕ) → slice_get (xs ++ x ∷ []) i ≡ Some a
    → (slice_get xs i ≡ Some a) ⊎ ((i ≡ length xs) × (x ≡ a))
get-pushed [] x a zero e = inr (refl, same_Some x a e)
get-pushed [] x a (suc i) e = inl e
get-pushed (y ∷ ys) x a zero e = inl e
get-pushed (y ∷ ys) x a (suc i) e =
    elim (get-pushed ys x a i e) [
      | inl old ↦ inl old
      | inr new ↦ inr (ap suc new.0, new.1)
    ]

module _ (u : Universe) where
  -- an instruction that gives a variant, and which output it is
  pub gives_found : (x : Instruction) (v : Variant) → gives u v x ≡ true
      → (r : ℕ) × (m : ℕ) × (x ≡ Publish r) × (slice_get (outputs u r) m ≡ Some v)
  gives_found (Publish r) v e =
      let f = any_found (λ w. same w v) (outputs u r) e in
      (r, f.0, refl, f.2 ∙ ap Some (same-true f.1 v f.3))
  gives_found _ v e = absurd (false≢true e)

  -- where a lane that stands there has made a variant
  abbrev MadeAt : List Instruction → (done made : ℕ) → Variant → Type 0
  MadeAt is done made v =
      (k : ℕ) × (r : ℕ) × (m : ℕ) × (slice_get is k ≡ Some (Publish r))
      × (slice_get (outputs u r) m ≡ Some v) × ((k < done) ⊎ ((k ≡ done) × (m < made)))

  made_now : (is : List Instruction) (done made : ℕ) (v : Variant) (x : Instruction)
      → slice_get is done ≡ Some x → contains (take made (outputs_of u x)) v ≡ true
      → MadeAt is done made v
  made_now is done made v (Publish r) at e =
      let f = any_found-take (λ w. same w v) made (outputs u r) e in
      (done, r, f.0, at, f.3 ∙ ap Some (same-true f.1 v f.4), inr (refl, f.2))
  made_now is done made v _ at e =
      let f = any_found-take (λ w. same w v) made [] e in absurd (none-some f.1 f.3)

  pub made_found : (is : List Instruction) (done made : ℕ) (v : Variant)
      → made_by u is done made v ≡ true → MadeAt is done made v
  unfolding made_before
  made_found is done made v e =
      elim (or_cases _ _ e) [
        | inl before ↦
            let f = any_found-take (gives u v) done is before in
            let g = gives_found f.1 v f.4 in
            (f.0, g.0, g.1, f.3 ∙ ap Some g.2, g.3, inl f.2)
        | inr now ↦ at (slice_get is done) refl now
      ]
    where
      at : (o : _) → slice_get is done ≡ o → publishing u o made v ≡ true → MadeAt is done made v
      at None s h = absurd (false≢true h)
      at (Some x) s h = made_now is done made v x s h

  module _ (p : Plan) (sound : IsSound u p) where
    -- what holds of each state that is reached
    pub record Holds (s : State) : Type 0 where
      pub archive_holds : ArchiveHolds u p no_rows (no_rows_keep u p) s
      -- what it has published are outputs,
      pub are_outputs : (i : ℕ) (a : Publication) → slice_get s.published i ≡ Some a
          → (r : ℕ) × (m : ℕ) × (slice_get (outputs u r) m ≡ Some a.variant)
      -- each once
      pub once : EachOnce s

    -- an output that a lane gives is not yet there
    new_output : (s : State) (l : ℕ) (next : LaneState) (v : Variant) → l < length p → Holds s
        → GivesOne u (lane p l) (lane_state s l) (instruction_at p l (lane_state s l).done) next v
        → archive u s.published v ≡ true → ⊥
    new_output s l next v lt h g e =
        elim (h.archive_holds.archive_is.only v e) [
          | inl from_start ↦ both_ways (initial u v)
              (sound.universe.outputs_new g.recipe (lane_state s l).made v g.output) from_start
          | inr made ↦
              let j = made.0 in
              let m = made_found (lane p j).instructions (lane_state s j).done (lane_state s j).made
              v made.2 in
              let same_output = sound.universe.outputs_once m.1 g.recipe m.2 (lane_state s l).made v
              m.4 g.output in
              let at : instruction_at p j m.0 ≡ Some (Publish g.recipe) =
              m.3 ∙ ap (λ r. Some (Publish r)) same_output.0 in
              let place = sound.plan.published_once j l m.0 (lane_state s l).done g.recipe made.1 lt
              at g.is in
              let done : (lane_state s j).done ≡ (lane_state s l).done =
              ap (λ k. (lane_state s k).done) place.0 in
              let out : (lane_state s j).made ≡ (lane_state s l).made =
              ap (λ k. (lane_state s k).made) place.0 in
              elim m.5 [
                | inl before ↦ omega (arith, before, place.1, done)
                | inr now ↦ omega (arith, now.1, same_output.1, out)
              ]
        ]

    abbrev Published : State → Type 0
    Published s = ((i : ℕ) (a : Publication) → slice_get s.published i ≡ Some a
        → (r : ℕ) × (m : ℕ) × (slice_get (outputs u r) m ≡ Some a.variant)) × EachOnce s

    -- what was published is in the archive
    pub published_there : (s : State) (i : ℕ) (a : Publication) → slice_get s.published i ≡ Some a
        → archive u s.published a.variant ≡ true
    unfolding archive
    published_there s i a e =
        or_right (initial u a.variant) _
        (list_any-some (λ (q : Publication). same q.variant a.variant) s.published i a e
        (same-refl a.variant))

    -- one more output, which is new
    one_more : (s : State) (l : ℕ) (next : LaneState) (v : Variant) → Holds s
        → (r m : ℕ) → slice_get (outputs u r) m ≡ Some v
        → (archive u s.published v ≡ true → ⊥) → Published (put_output s l next v)
    one_more s l next v h r m output new = (
      λ i a e. elim (get-pushed s.published (publication l v) a i e) [
        | inl old ↦ h.are_outputs i a old
        | inr last ↦ (r, m, output ∙ ap (λ (q : Publication). Some q.variant) last.1)
      ],
      λ i j a b e f same_variant.
          let apart : (k : ℕ) (c : Publication) → slice_get s.published k ≡ Some c
          → c.variant ≡ v → ⊥ =
          λ k c there is. new (subst (λ x. archive u s.published x ≡ true) is
          (published_there s k c there)) in
          let equal = same-true a.variant b.variant same_variant in
          elim (get-pushed s.published (publication l v) a i e) [
            | inl old ↦ elim (get-pushed s.published (publication l v) b j f) [
              | inl other ↦ h.once i j a b old other same_variant
              | inr last ↦
                  absurd (apart i a old
                  (equal ∙ sym (ap (λ (q : Publication). q.variant) last.1)))
            ]
            | inr last ↦ elim (get-pushed s.published (publication l v) b j f) [
              | inl other ↦
                  absurd (apart j b other
                  (sym equal ∙ sym (ap (λ (q : Publication). q.variant) last.1)))
              | inr both ↦ last.0 ∙ sym both.0
            ]
          ],
    )

    after_turn : (s : State) (l : ℕ) → l < length p → Holds s → (turn : Turn)
        → PlaceMove u (archive u s.published) (lane p l) (lane_state s l)
        (instruction_at p l (lane_state s l).done) turn → After Published s l turn
    after_turn s l lt h (Goes next) g = (h.are_outputs, h.once)
    after_turn s l lt h (Gives next v) g =
        one_more s l next v h g.recipe (lane_state s l).made g.output (new_output s l next v lt h g)
    after_turn s l lt h Waits g = tt
    after_turn s l lt h Ends g = tt
    after_turn s l lt h (Fails trap) g = tt

    after_step : (s m : State) (l : ℕ) → Holds s → step u p s l ≡ Moved m → Holds m
    unfolding turn_at
    after_step s m l h e =
        let published = step_keeps u p Published s m l e
        (λ lt. after_turn s l lt h (turn_at u p s l)
        (turn_place u (archive u s.published) (lane p l) (lane_state s l)
        (instruction_at p l (lane_state s l).done))) in
        record {
          archive_holds =
              archive_stays u p no_rows (no_rows_keep u p) sound s m l h.archive_holds e;
          are_outputs = published.0;
          once = published.1;
        }

    at_start : Holds (start u p)
    at_start =
        record {
          archive_holds = archive_at_start u p no_rows (no_rows_keep u p) sound;
          are_outputs = λ i a e. absurd (cc);
          once = λ i j a b e f same_variant. absurd (cc);
        }

    pub reached_holds : (s : State) → Reachable u p s → Holds s
    reached_holds s reached =
        run_keeps u p Holds (λ a b l. after_step a b l) reached.0 (start u p) s reached.1 at_start

    -- what it has published the universe knows
    pub published_known : (s : State) → Holds s → (i : ℕ) (a : Publication)
        → slice_get s.published i ≡ Some a → IsKnown u a.variant
    published_known s h i a e =
        let o = h.are_outputs i a e in
        let within = slice_get_within (outputs u o.0) o.1 a.variant o.2 in
        subst (IsKnown u)
        (get_or_from_slice_get (outputs u o.0) o.1 a.variant a.variant o.2)
        (sound.universe.outputs_known o.0 o.1 a.variant within)
