-- The words of clocks: the outputs of one name that count.
use Rattle.std.proofs.Common.{◌≡◌, ◌⊎◌, inl, inr, ℕ, ◌+◌, ◌<◌, ◌≤◌, true, List, [], length, take, get_or, Some, slice_get, sym, ap, subst, ◌∙◌, arith}
use Rattle.std.specs.Cmp.{both_ways as same_tests}
use Rattle.std.specs.Prelude.{slice_index, slice_index_or}
use Rattle.std.proofs.lemmas.Bool.{cases_eq, or_cases, or_left, or_right, and_parts, and_from, lt-ltb}
use Rattle.std.proofs.lemmas.Option.{same_Some, slice_get_within, get_or_from_slice_get}
use Rattle.clause_kernel.specs.Rows.{word_has}
use Rattle.farm_laws.proofs.Archive.{element, list_any-some, same-true, same-refl}
use Rattle.farm_model.proofs.BelowLaws.{some_below-at, some_below-found}
use Rattle.farm_model.specs.Common.{some_below, Universe, variant, variants, same, contains, initial, IsKnown, IsUniverse}
use Rattle.farm_model.specs.declared.types.Variant.{Variant}
use Rattle.plan_model.specs.Plan.{Plan, lane, lane_outputs}
use Rattle.sat_rows.specs.Rows.{variant_passes, IsWordFor}
use Rattle.known_rows.specs.declared.by_name.OutputPlace.{OutputPlace}
use Rattle.known_rows.specs.declared.marks.LaneOutputs.{LaneOutputs}
use Rattle.known_rows.specs.declared.marks.Output.{Output}
use Rattle.known_rows.specs.ByName.{place, AreKnownLanes, AreListedByName}
use Rattle.known_rows.specs.Clock.{row_of, IsCounted}
use Rattle.known_rows.specs.Marks.{AreLanes}
use Rattle.known_rows.proofs.ClockRows.{first-made}
use Rattle.known_rows.proofs.HitLaws.{lanes_known}
use Rattle.known_rows.proofs.InitialRow.{initial_word}
use Rattle.known_rows.proofs.Possibly.{take-get, found-in}

-- the output at a place has one bit, of a variant of the universe
pub counted_one : (lanes : List LaneOutputs) (x : ℕ → ℕ) (at : OutputPlace) (n a b : ℕ)
    → IsCounted lanes x at n a → IsCounted lanes x at n b → a ≡ b
counted_one lanes x at n a b one other =
    let lane = same_Some one.is.of other.is.of (sym one.is.lane ∙ other.is.lane) in
    let there : slice_get other.is.of.outputs.items at.number ≡ Some one.output =
    subst (λ (of : LaneOutputs). slice_get of.outputs.items at.number ≡ Some one.output) lane
    one.is.output in
    let output = same_Some one.output other.output (sym there ∙ other.is.output) in
    sym one.bit ∙ ap (λ (o : Output). o.variant.bit) output ∙ other.bit

pub counted_small : (u : Universe) (lanes : List LaneOutputs) (x : ℕ → ℕ) (at : OutputPlace)
    (n b : ℕ)
    → IsUniverse u → AreKnownLanes u lanes → IsCounted lanes x at n b → b < 64
counted_small u lanes x at n b sound known is =
    let k = known at.lane is.is.of is.is.lane at.number is.output is.is.output in
    omega (arith, k, sound.few is.output.variant.name, is.bit)

-- what is kept of a word as the places of its name are gone through
pub record IsWordSoFar (lanes : List LaneOutputs) (x : ℕ → ℕ) (list : List OutputPlace)
    (n first k word : ℕ)
    : Type 0 where
  pub start : (b : ℕ) → word_has first b ≡ true → word_has word b ≡ true
  pub each : (m b : ℕ) (at : OutputPlace) → m < k → slice_get list m ≡ Some at
      → IsCounted lanes x at n b → word_has word b ≡ true
  pub only : (b : ℕ) → word_has word b ≡ true
      → (word_has first b ≡ true) ⊎ ((at : OutputPlace) × IsCounted lanes x at n b)

module _ (lanes : List LaneOutputs) (x : ℕ → ℕ) (list : List OutputPlace) (n first : ℕ) where
  pub word_start : (word : ℕ) → word ≡ first → IsWordSoFar lanes x list n first 0 word
  word_start word is = record {
    start = λ b h. ap (λ w. word_has w b) is ∙ h;
    each = λ m b at lt there counts. absurd (omega (arith, lt));
    only = λ b h. inl (sym (ap (λ w. word_has w b) is) ∙ h);
  }

  -- one more place
  pub word_next : (k : ℕ) (d : OutputPlace) (word next : ℕ)
      → IsWordSoFar lanes x list n first k word
      → ((b : ℕ) → word_has word b ≡ true → word_has next b ≡ true)
      → ((b : ℕ) → IsCounted lanes x (get_or list k d) n b → word_has next b ≡ true)
      → ((b : ℕ) → word_has next b ≡ true
      → (word_has word b ≡ true) ⊎ IsCounted lanes x (get_or list k d) n b)
      → IsWordSoFar lanes x list n first (k + 1) next
  word_next k d word next so_far kept counted only = record {
    start = λ b h. kept b (so_far.start b h);
    each = λ m b at lt there counts. elim (cases_eq m k) [
      | inl here ↦
          counted b (subst (λ (a : OutputPlace). IsCounted lanes x a n b)
          (sym (get_or_from_slice_get list k at d
          (subst (λ i. slice_get list i ≡ Some at) here there))) counts)
      | inr other ↦ kept b (so_far.each m b at (omega (arith, lt, other)) there counts)
    ];
    only = λ b h. elim (only b h) [
      | inl old ↦ so_far.only b old
      | inr new ↦ inr (get_or list k d, new)
    ];
  }

module _ (u : Universe) (p : Plan) (lanes : List LaneOutputs) (sound : IsUniverse u)
    (are : AreLanes u p lanes) (x : ℕ → ℕ) where
  -- an output that counts is in the row
  counted_in : (at : OutputPlace) (n b : ℕ) → IsCounted lanes x at n b
      → variant_passes u (row_of u p x) n b ≡ true
  counted_in at n b is =
      let of = is.is.of in
      let outs = of.outputs.items in
      let lt = slice_get_within lanes at.lane of is.is.lane in
      let known : IsKnown u is.output.variant =
      lanes_known u p lanes are sound at.lane of is.is.lane at.number is.output is.is.output in
      let here : is.output.variant ≡ variant n b =
      ap (λ k. variant k is.output.variant.bit) is.named ∙ ap (variant n) is.bit in
      let found =
      list_any-some (λ (o : Output). same o.variant (variant n b)) (take (x at.lane) outs) at.number
      is.output
      (take-get (x at.lane) at.number outs is.output is.before is.is.output)
      (ap (λ w. same w (variant n b)) here ∙ same-refl (variant n b)) in
      let made : contains (take (x at.lane) (lane_outputs u (lane p at.lane))) (variant n b)
      ≡ true =
      sym (first-made u p at.lane (x at.lane) outs (variant n b) (are.each at.lane of is.is.lane))
      ∙ found in
      and_from _ _ (lt-ltb b (variants u n) (subst (IsKnown u) here known))
      (or_right (initial u (variant n b)) _
      (some_below-at (length p)
      (λ j. contains (take (x j) (lane_outputs u (lane p j))) (variant n b)) at.lane
      (omega (arith, lt, are.long)) made))

  -- what is in the row, and not from the start, is an output that counts and is listed
  counted_back : (lists : List (List OutputPlace)) → AreListedByName lists lanes (length lanes)
      → (n b : ℕ)
      → some_below (length p) (λ j. contains (take (x j) (lane_outputs u (lane p j))) (variant n b))
      ≡ true
      → (m : ℕ) × (at : OutputPlace) × (slice_get (slice_index_or lists n []) m ≡ Some at)
      × IsCounted lanes x at n b
  counted_back lists listed n b some =
      let f = some_below-found (length p)
      (λ j. contains (take (x j) (lane_outputs u (lane p j))) (variant n b)) some in
      let j = f.0 in
      let of = element lanes j (omega (arith, f.1, are.long)) in
      let outs = of.0.outputs.items in
      let w = found-in (λ (o : Output). same o.variant (variant n b)) (x j) outs
      (first-made u p j (x j) outs (variant n b) (are.each j of.0 of.1) ∙ f.2) in
      let here : w.element.variant ≡ variant n b = same-true w.element.variant (variant n b)
      w.passes in
      let name_is : w.element.variant.name ≡ n = ap (λ (v : Variant). v.name) here in
      let there = listed j of.0 (omega (arith, f.1, are.long)) of.1 w.place w.element
      (slice_get_within outs w.place w.element w.at) w.at in (
        there.0,
        place j w.place,
        subst (λ k. slice_get (slice_index_or lists k []) there.0 ≡ Some (place j w.place)) name_is
            there.1,
        record {
          output = w.element;
          is = record { of = of.0; lane = of.1; output = w.at };
          before = w.before;
          named = name_is;
          bit = ap (λ (v : Variant). v.bit) here;
        },
      )

  pub word_is : (lists : List (List OutputPlace)) → AreListedByName lists lanes (length lanes)
      → (n first k word : ℕ) → first ≡ slice_index u.initial n
      → length (slice_index_or lists n []) ≤ k
      → IsWordSoFar lanes x (slice_index_or lists n []) n first k word
      → IsWordFor u (row_of u p x) n word
  word_is lists listed n first k word first_is end so_far b =
      same_tests _ _
      (λ h. elim (so_far.only b h) [
        | inl start ↦
            let parts = and_parts _ _ (sym (initial_word u n b sound)
            ∙ (sym (ap (λ w. word_has w b) first_is) ∙ start)) in
            and_from _ _ parts.0 (or_left (initial u (variant n b)) _ parts.1)
        | inr counts ↦ counted_in counts.0 n b counts.1
      ])
      (λ h.
      let parts = and_parts _ _ h in
      elim (or_cases (initial u (variant n b)) _ parts.1) [
        | inl is ↦ so_far.start b (ap (λ w. word_has w b) first_is
            ∙ (initial_word u n b sound ∙ and_from _ _ parts.0 is))
        | inr some ↦
            let back = counted_back lists listed n b some in
            so_far.each back.0 b back.1
            (omega (arith, end, slice_get_within (slice_index_or lists n []) back.0 back.1 back.2))
            back.2 back.3
      ])
