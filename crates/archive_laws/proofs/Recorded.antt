-- The words are the initial archive and the recorded outputs.
use Rattle.std.proofs.Common.{◌≡◌, inl, inr, ℕ, suc, ◌+◌, ◌<◌, true, ◌||◌, List, [], ◌∷◌, ◌++◌, length, take, drop, Option, Some, None, slice_get, refl, sym, ap, ◌∙◌, arith, take-append-drop}
use Rattle.std.specs.Cmp.{both_ways as same_tests}
use Rattle.std.specs.Prelude.{slice_index_or}
use Rattle.std.specs.List.{list_any, flat_map}
use Rattle.std.proofs.Math.Seq.{take-append-add}
use Rattle.std.proofs.lemmas.Bool.{or_cases, or_left, or_right}
use Rattle.std.proofs.lemmas.Grind.{flat_map-append}
use Rattle.std.proofs.lemmas.List.{take-append-le}
use Rattle.std.proofs.lemmas.List.Folds.{list_any-append}
use Rattle.farm_model.specs.Common.{some_below, Universe, same, contains, initial, outputs}
use Rattle.farm_model.specs.declared.types.Variant.{Variant}
use Rattle.farm_model.proofs.BelowLaws.{some_below-at, some_below-found}
use Rattle.plan_model.specs.Common.{Lane, lane, outputs_of, events_of, lane_outputs, LaneState, archive, State, lane_state, no_state, gives, publishing, world_lane}
use Rattle.plan_model.specs.declared.instructions.Instruction.{Instruction}
use Rattle.plan_model.specs.declared.instructions.Instruction.TheVariants.{Publish, Otherwise, EndWhen}
use Rattle.farm_laws.proofs.Branches.{drop_some}
use Rattle.farm_laws.specs.EventsLeft.{StandsAt, InPlace}
use Rattle.farm_laws.proofs.Archive.{made_before, made_by}
use Rattle.farm_laws.proofs.Possible.{made_in, initial_there}
use Rattle.farm_laws.proofs.KnownRows.{ArchiveHolds}
use Rattle.archive_laws.specs.Shown.{recorded, WordsAreRecorded}
use Rattle.archive_laws.proofs.Stands.{no_rows, no_rows_keep, holds_in}

-- what some instruction of a list gives is among the outputs of the list
gives-outputs : (u : Universe) (v : Variant) (xs : List Instruction)
    → list_any (gives u v) xs ≡ contains (flat_map (outputs_of u) xs) v
gives-outputs u v [] = refl
gives-outputs u v (x ∷ xs) =
    ap (λ b. gives u v x || b) (gives-outputs u v xs)
    ∙ sym (list_any-append (λ w. same w v) (outputs_of u x) (flat_map (outputs_of u) xs))

-- the outputs made of an instruction are the first of all that are left
first_made : (u : Universe) (x : Instruction) (made : ℕ) (rest : List Variant)
    → made < events_of u x → take made (outputs_of u x ++ rest) ≡ take made (outputs_of u x)
first_made u (Publish r) made rest lt = take-append-le made (outputs u r) rest (omega arith)
first_made u Otherwise made rest lt = absurd (omega (arith, lt))
first_made u EndWhen made rest lt = absurd (omega (arith, lt))
first_made u _ made rest lt = let e : made ≡ 0 = omega arith in rw e refl

now_made : (u : Universe) (v : Variant) (is : List Instruction) (done made : ℕ)
    (o : Option Instruction) → slice_get is done ≡ o → StandsAt u o made
    → contains (take made (flat_map (outputs_of u) (drop done is))) v ≡ publishing u o made v
now_made u v is done made None e none =
    ap (λ k. contains (take k (flat_map (outputs_of u) (drop done is))) v) none
now_made u v is done made (Some x) e lt =
    ap (λ ys. contains (take made (flat_map (outputs_of u) ys)) v) (drop_some is done x e)
    ∙ ap (λ vs. contains vs v) (first_made u x made
    (flat_map (outputs_of u) (drop (suc done) is)) lt)

-- what a lane has made is what its place records
made_by-recorded : (u : Universe) (v : Variant) (of : Lane) (st : LaneState)
    → InPlace u of.instructions st.done st.made
    → made_by u of.instructions st.done st.made v ≡ contains (recorded u of st) v
unfolding made_before
made_by-recorded u v of st place =
    let first = flat_map (outputs_of u) (take st.done of.instructions) in
    let rest = flat_map (outputs_of u) (drop st.done of.instructions) in
    let whole : lane_outputs u of ≡ first ++ rest =
    ap (flat_map (outputs_of u)) (sym (take-append-drop st.done of.instructions))
    ∙ flat_map-append (outputs_of u) (take st.done of.instructions)
    (drop st.done of.instructions) in
    let all : contains (recorded u of st) v ≡ (contains first v || contains (take st.made rest) v) =
    ap (λ vs. contains (take (length first + st.made) vs) v) whole
    ∙ ap (λ vs. contains vs v) (take-append-add first rest st.made)
    ∙ list_any-append (λ w. same w v) first (take st.made rest) in
    ap (λ b. b || publishing u (slice_get of.instructions st.done) st.made v)
    (gives-outputs u v (take st.done of.instructions))
    ∙ ap (λ b. contains first v || b)
    (sym (now_made u v of.instructions st.done st.made
    (slice_get of.instructions st.done) refl place))
    ∙ sym all

pub words_are_recorded : WordsAreRecorded
words_are_recorded u p sound w r v = sym (r.shown.2.archive_is v) ∙ same_tests _ _ to from
  where
    s : State
    s = r.shown.0

    holds : ArchiveHolds u p no_rows (no_rows_keep u p) s
    holds = holds_in u p sound w r

    lane_is : (l : ℕ) → lane_state s l ≡ world_lane w l
    lane_is l = ap (λ (xs : List LaneState). slice_index_or xs l no_state) r.shown.2.lanes

    is_recorded : (l : ℕ) → l < length p
        → made_in u p s l v ≡ contains (recorded u (lane p l) (world_lane w l)) v
    is_recorded l lt =
        made_by-recorded u v (lane p l) (lane_state s l) (holds.places.each l lt)
        ∙ ap (λ st. contains (recorded u (lane p l) st) v) (lane_is l)

    to : archive u s.published v ≡ true
        → (initial u v || some_below (length p)
        (λ l. contains (recorded u (lane p l) (world_lane w l)) v)) ≡ true
    to e =
        elim (holds.archive_is.only v e) [
          | inl start ↦ or_left (initial u v) _ start
          | inr made ↦
              or_right (initial u v) _ (some_below-at (length p)
              (λ l. contains (recorded u (lane p l) (world_lane w l)) v) made.0 made.1
              (sym (is_recorded made.0 made.1) ∙ made.2))
        ]

    from : (initial u v || some_below (length p)
        (λ l. contains (recorded u (lane p l) (world_lane w l)) v)) ≡ true
        → archive u s.published v ≡ true
    from e =
        elim (or_cases (initial u v) _ e) [
          | inl start ↦ initial_there u p s.published v start
          | inr some ↦
              let f =
              some_below-found (length p) (λ l. contains
              (recorded u (lane p l) (world_lane w l)) v) some in
              holds.archive_is.all f.0 v f.1 (is_recorded f.0 f.1 ∙ f.2)
        ]
