-- Facts of a publish, by its first output that is in the set.
use Rattle.std.proofs.Common.{◌≡◌, ◌≢◌, ℕ, suc, ◌+◌, ◌<◌, ◌≤◌, Bool, true, false, ◌||◌, List, [], ◌∷◌, length, take, get_or, All, Some, inl, inr, refl, sym, ap, subst, ◌∙◌, arith}
use Rattle.std.specs.Prelude.{◌↔◌, IsTrue, slice_get}
use Rattle.std.specs.List.{list_any}
use Rattle.std.proofs.lemmas.Bool.{cases_eq, cases_lt, or_cases, or_left, or_right, both_ways, false≢true}
use Rattle.std.proofs.lemmas.List.{take-take}
use Rattle.std.proofs.lemmas.Option.{slice_get-get_or, get_or_from_slice_get, slice_get_within}
use Rattle.bit_rows.specs.Sets.{variants_of, IsSubset, HaveCommon}
use Rattle.cert_text.specs.Certificates.{IsNewRow}
use Rattle.farm_laws.proofs.Archive.{list_any-take, same-true}
use Rattle.std.proofs.lemmas.List.Elements.{All-head, All-tail}
use Rattle.farm_model.specs.Common.{Universe, variant, same, contains, outputs, initial, IsKnown, IsUniverse}
use Rattle.farm_model.specs.declared.types.Variant.{Variant}
use Rattle.sat_rows.specs.Rows.{IsRowOf}
use Rattle.plan_model.specs.Common.{Rows, Plan, lane, instruction_at}
use Rattle.plan_model.specs.declared.instructions.Instruction.{Instruction}
use Rattle.plan_model.specs.declared.instructions.Instruction.TheVariants.{Publish}
use Rattle.plan_cert.specs.Facts.{HasNoSource, IsFirstSource, IsKnownWith, IsKnownAt, AreFacts}
use Rattle.plan_cert.specs.Stated.{in_row}
use Rattle.plan_cert.proofs.StatedLaws.{row-has}

pub known_at : (u : Universe) (vs : List Variant) (n : ℕ) (d : Variant) → All (IsKnown u) vs
    → n < length vs → IsKnown u (get_or vs n d)
known_at u vs n d known lt = known n d lt

pub first_found : (row : List ℕ) (vs : List Variant) (n : ℕ) (d : Variant) (hit : Bool)
    → n < length vs → hit ≡ variants_of row (get_or vs n d).name (get_or vs n d).bit → hit ≡ true
    → HasNoSource (in_row row) vs n → IsFirstSource (in_row row) vs n
first_found row vs n d hit lt is here none =
    record {
      variant = get_or vs n d;
      at = slice_get-get_or vs n d lt;
      hit = sym is ∙ here;
      none = none;
    }

pub none_next : (row : List ℕ) (vs : List Variant) (n : ℕ) (d : Variant) (hit : Bool)
    → hit ≡ variants_of row (get_or vs n d).name (get_or vs n d).bit → hit ≡ false
    → HasNoSource (in_row row) vs n → HasNoSource (in_row row) vs (n + 1)
none_next row vs n d hit is miss none k c lt at =
    elim (cases_eq k n) [
      | inl here ↦
          let found : get_or vs n d ≡ c =
          get_or_from_slice_get vs n c d (ap (slice_get vs) (sym here) ∙ at) in
          ap (in_row row) (sym found) ∙ sym is ∙ miss
      | inr other ↦ none k c (omega (arith, lt, other)) at
    ]

-- of more outputs
contains-more : (vs : List Variant) (a b : ℕ) (v : Variant) → a ≤ b → contains (take a vs) v ≡ true
    → contains (take b vs) v ≡ true
contains-more vs a b v le e =
    list_any-take (λ w. same w v) a (take b vs)
    (ap (list_any (λ w. same w v)) (take-take a b vs le) ∙ e)

module _ (u : Universe) (sources new before : List ℕ) (r : ℕ) (known : Variant → Bool)
    (is : IsRowOf u known before) (all_known : (v : Variant) → known v ≡ true → IsKnown u v) where
  -- what is new is known already
  pub within-known : IsSubset (variants_of new) (variants_of before)
      → IsKnownWith u (in_row sources) (in_row new) known r
  within-known sub m c v at hit here =
      inl (sym (row-has u known before is all_known v) ∙ sub v.name v.bit here)

  pub none-known : HasNoSource (in_row sources) (outputs u r) (length (outputs u r))
      → IsKnownWith u (in_row sources) (in_row new) known r
  none-known none m c v at hit here =
      absurd (both_ways (in_row sources c)
      (none m c (slice_get_within (outputs u r) m c at) at) hit)

  module _ (n : ℕ) (first : IsFirstSource (in_row sources) (outputs u r) n) (row : List ℕ)
      (row_is : IsRowOf u (λ v. known v || contains (take (n + 1) (outputs u r)) v) row)
      (with_known : (v : Variant) → (known v || contains (take (n + 1) (outputs u r)) v) ≡ true
      → IsKnown u v) where
    has : (v : Variant) → in_row row v ≡ (known v || contains (take (n + 1) (outputs u r)) v)
    has = row-has u (λ v. known v || contains (take (n + 1) (outputs u r)) v) row row_is with_known

    first-known : IsSubset (variants_of new) (variants_of row)
        → IsKnownWith u (in_row sources) (in_row new) known r
    first-known sub m c v at hit here =
        elim (cases_lt m n) [
          | inl less ↦ absurd (both_ways (in_row sources c) (first.none m c less at) hit)
          | inr le ↦
              elim (or_cases (known v) _ (sym (has v) ∙ sub v.name v.bit here)) [
                | inl old ↦ inl old
                | inr out ↦ inr (contains-more (outputs u r) (n + 1) (suc m) v (omega (arith, le))
                    out)
              ]
        ]

    first-within : IsKnownWith u (in_row sources) (in_row new) known r
        → IsSubset (variants_of new) (variants_of row)
    first-within h name bit here =
        let v = variant name bit in
        has v
        ∙ (elim (h n first.variant v first.at first.hit here) [
          | inl old ↦ or_left (known v) _ old
          | inr out ↦ or_right (known v) _
              (contains-more (outputs u r) (suc n) (n + 1) v (omega arith) out)
        ])

    pub first-decides : (yes : Bool) → (IsTrue yes ↔ IsSubset (variants_of new) (variants_of row))
        → IsTrue yes ↔ IsKnownWith u (in_row sources) (in_row new) known r
    first-decides yes_it decides = (λ e. first-known (decides.0 e), λ h. decides.1 (first-within h))

-- what is known, and outputs, are known variants
pub with-known : (u : Universe) (r n : ℕ) (known : Variant → Bool)
    → ((v : Variant) → known v ≡ true → IsKnown u v) → All (IsKnown u) (outputs u r) → (v : Variant)
    → (known v || contains (take n (outputs u r)) v) ≡ true → IsKnown u v
with-known u r n known all_known outs v e =
    elim (or_cases (known v) _ e) [
      | inl old ↦ all_known v old
      | inr out ↦ contained (outputs u r) outs
          (list_any-take (λ w. same w v) n (outputs u r) out)
    ]
  where
    contained : (vs : List Variant) → All (IsKnown u) vs → contains vs v ≡ true → IsKnown u v
    contained [] all here = absurd (false≢true here)
    contained (w ∷ ws) all here =
        elim (or_cases (same w v) _ here) [
          | inl same_one ↦ subst (IsKnown u) (same-true w v same_one)
              (All-head (IsKnown u) w ws all)
          | inr rest ↦ contained ws (All-tail (IsKnown u) w ws all) rest
        ]

-- what is in the initial archive beside a set tells nothing of what is not there
module _ (u : Universe) (sources : Variant → Bool) (new : List ℕ) (listed all : Variant → Bool)
    (r : ℕ) (fresh : IsNewRow u new) (holds : (v : Variant) → all v ≡ (initial u v || listed v)) where
  pub known_apart : (answer : Bool) → (IsTrue answer ↔ IsKnownWith u sources (in_row new) listed r)
      → IsTrue answer ↔ IsKnownWith u sources (in_row new) all r
  known_apart answer decides = (
    λ e m c v at hit here. elim (decides.0 e m c v at hit here) [
      | inl old ↦ inl (holds v ∙ or_right (initial u v) _ old)
      | inr out ↦ inr out
    ],
    λ h. decides.1 (λ m c v at hit here. elim (h m c v at hit here) [
      | inl old ↦
          elim (or_cases (initial u v) (listed v) (sym (holds v) ∙ old)) [
            | inl first ↦ absurd (both_ways (initial u v) (fresh.new v.name v.bit here) first)
            | inr some ↦ inl some
          ]
      | inr out ↦ inr out
    ]),
  )

module _ (u : Universe) (p : Plan) (rows : Rows) (sources new : Variant → Bool) where
  -- of the publish that is there
  pub known_here : (j k r : ℕ) (answer : Bool) → instruction_at p j k ≡ Some (Publish r)
      → (IsTrue answer ↔ IsKnownWith u sources new (rows j k) r)
      → IsTrue answer ↔ IsKnownAt u p rows sources new j k
  known_here j k r answer at decides = (
    λ e q there. let same : r ≡ q = cc in subst (IsKnownWith u sources new (rows j k)) same
        (decides.0 e),
    λ h. decides.1 (h r at),
  )

  pub none_here : (j k : ℕ) (x : Instruction) → instruction_at p j k ≡ Some x
      → ((r : ℕ) → x ≢ Publish r) → IsTrue true ↔ IsKnownAt u p rows sources new j k
  none_here j k x at none =
      (λ e q there. absurd (none q (let same : x ≡ Publish q = cc in same)), λ h. refl)

  -- all places of a lane
  pub known_lane : (j n : ℕ) → length (lane p j).instructions ≤ n
      → ((k : ℕ) → k < n → IsKnownAt u p rows sources new j k) → (k : ℕ)
      → IsKnownAt u p rows sources new j k
  known_lane j n past all k r at =
      let lt = slice_get_within (lane p j).instructions k (Publish r) at in all k
      (omega (arith, lt, past)) r at

  -- all lanes, and the initial archive
  pub facts_from : ((j : ℕ) → j < length p → (k : ℕ) → IsKnownAt u p rows sources new j k)
      → ((c v : Variant) → sources c ≡ true → new v ≡ true → initial u c ≡ true → initial u v
      ≡ true)
      → AreFacts u p rows sources new
  facts_from all start c v hit here =
      record {
        from_start = start c v hit here;
        from_output = λ j k r m lt at out. all j lt k r at m c v out hit here;
      }

  pub facts_at : AreFacts u p rows sources new → (j : ℕ) → j < length p → (k : ℕ)
      → IsKnownAt u p rows sources new j k
  facts_at facts j lt k r at m c v out hit here = (facts c v hit here).from_output j k r m lt at out

-- what is in the initial archive
module _ (u : Universe) (archive sources new : List ℕ) (sound : IsUniverse u)
    (is : IsRowOf u (initial u) archive) where
  abbrev pub StaysInitial : Type 0
  StaysInitial = (c v : Variant) → in_row sources c ≡ true → in_row new v ≡ true → initial u c
      ≡ true
      → initial u v ≡ true

  archive-has : (v : Variant) → in_row archive v ≡ initial u v
  archive-has = row-has u (initial u) archive is sound.initial_known

  pub none-initial : (hit : Bool)
      → (IsTrue hit ↔ HaveCommon (variants_of archive) (variants_of sources))
      → hit ≡ false → IsTrue true ↔ StaysInitial
  none-initial hit common miss = (
    λ e c v here some start. absurd
        (both_ways hit miss (common.1 (c.name, c.bit, archive-has c ∙ start, here))),
    λ h. refl,
  )

  pub some-initial : (hit : Bool)
      → (IsTrue hit ↔ HaveCommon (variants_of archive) (variants_of sources))
      → hit ≡ true → (answer : Bool)
      → (IsTrue answer ↔ IsSubset (variants_of new) (variants_of archive))
      → IsTrue answer ↔ StaysInitial
  some-initial hit common found answer subset = (
    λ e c v here some start. sym (archive-has v) ∙ subset.0 e v.name v.bit some,
    λ h. let both = common.0 found in
        subset.1 (λ n b some. archive-has (variant n b)
        ∙ h (variant both.0 both.1) (variant n b) both.3 some
        (sym (archive-has (variant both.0 both.1)) ∙ both.2)),
  )
