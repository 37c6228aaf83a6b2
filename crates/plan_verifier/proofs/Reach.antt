-- What may be in the archive at the places of a lane.
use Rattle.std.proofs.Common.{◌≡◌, ◌≢◌, inl, inr, ℕ, suc, ◌+◌, ◌<◌, Bool, true, false, ◌||◌, List, [], ◌∷◌, length, take, Some, refl, sym, ap, ◌∙◌, add-one}
use Rattle.std.specs.Cmp.{both_ways as same_tests}
use Rattle.std.specs.List.{list_any}
use Rattle.std.proofs.Math.Bool.{or-false}
use Rattle.std.proofs.lemmas.Bool.{cases_eq, eq-eqb, ne_eqb, or_cases, or_left, or_right}
use Rattle.std.proofs.lemmas.List.Folds.{list_any-append}
use Rattle.farm_laws.proofs.Archive.{take_some}
use Rattle.farm_model.specs.Common.{some_below, Universe, initial}
use Rattle.farm_model.specs.declared.types.Variant.{Variant}
use Rattle.farm_model.proofs.BelowLaws.{some_below-at, some_below-found, some_below-mono}
use Rattle.plan_model.specs.Common.{gives, within_reach, possible, Plan, lane, instruction_at}
use Rattle.plan_model.specs.declared.instructions.Instruction.{Instruction}
use Rattle.sat_rows.specs.Rows.{IsRowOf}
use Rattle.known_rows.proofs.ArchiveRows.{row_same}

module _ (u : Universe) (p : Plan) (l : ℕ) where
  -- of lane j within reach at place i
  abbrev pub reach : ℕ → Variant → ℕ → Bool
  reach i v j = list_any (gives u v) (within_reach p l i j)

  own-reach : (i : ℕ) (v : Variant) → reach i v l
      ≡ list_any (gives u v) (take i (lane p l).instructions)
  own-reach i v = rw (eq-eqb l l refl) refl

  other-reach : (i j : ℕ) (v : Variant) → j ≢ l
      → reach i v j ≡ list_any (gives u v) (lane p j).instructions
  other-reach i j v other = rw (ne_eqb j l other) refl

  -- ---- a lane begins

  abbrev pub so_far : ℕ → Variant → Bool
  so_far n v = initial u v || some_below n (reach 0 v)

  swapped : (a b c : Bool) → ((a || b) || c) ≡ (a || (c || b))
  swapped true b c = refl
  swapped false true true = refl
  swapped false true false = refl
  swapped false false c = sym (or-false c)

  pub with_lane : (n : ℕ) (row : List ℕ) → n ≢ l
      → IsRowOf u (λ v. so_far n v || list_any (gives u v) (lane p n).instructions) row
      → IsRowOf u (so_far (n + 1)) row
  with_lane n row other is =
      row_same u _ _ row
      (λ v. swapped (initial u v) (some_below n (reach 0 v))
      (list_any (gives u v) (lane p n).instructions)
      ∙ ap (λ x. initial u v || (x || some_below n (reach 0 v))) (sym (other-reach 0 n v other))
      ∙ ap (λ k. initial u v || some_below k (reach 0 v)) (sym (add-one n)))
      is

  pub without_own : (n : ℕ) (row : List ℕ) → n ≡ l → IsRowOf u (so_far n) row
      → IsRowOf u (so_far (n + 1)) row
  without_own n row own is =
      row_same u _ _ row
      (λ v. ap (λ x. initial u v || (x || some_below n (reach 0 v)))
      (sym (ap (reach 0 v) own ∙ own-reach 0 v))
      ∙ ap (λ k. initial u v || some_below k (reach 0 v)) (sym (add-one n)))
      is

  pub all_lanes : (n : ℕ) (row : List ℕ) → n ≡ length p → IsRowOf u (so_far n) row
      → IsRowOf u (possible u p l 0) row
  unfolding possible
  all_lanes n row end is =
      row_same u _ _ row (λ v. ap (λ k. initial u v || some_below k (reach 0 v)) end) is

  -- ---- it goes on

  module _ (lt : l < length p) (i : ℕ) (x : Instruction) (at : instruction_at p l i ≡ Some x) where
    own-more : (v : Variant) → reach (suc i) v l ≡ (reach i v l || gives u v x)
    own-more v =
        own-reach (suc i) v
        ∙ ap (list_any (gives u v)) (take_some (lane p l).instructions i x at)
        ∙ list_any-append (gives u v) (take i (lane p l).instructions) (x ∷ [])
        ∙ ap (λ b. list_any (gives u v) (take i (lane p l).instructions) || b)
        (or-false (gives u v x))
        ∙ ap (λ b. b || gives u v x) (sym (own-reach i v))

    other-same : (j : ℕ) (v : Variant) → j ≢ l → reach (suc i) v j ≡ reach i v j
    other-same j v other = other-reach (suc i) j v other ∙ sym (other-reach i j v other)

    some-more : (v : Variant) → some_below (length p) (reach (suc i) v) ≡ true
        → (some_below (length p) (reach i v) || gives u v x) ≡ true
    some-more v e =
        let r = some_below-found (length p) (reach (suc i) v) e in
        elim (cases_eq r.0 l) [
          | inl own ↦
              elim (or_cases (reach i v l) _
              (sym (own-more v) ∙ (sym (ap (reach (suc i) v) own) ∙ r.2))) [
                | inl old ↦ or_left (some_below (length p) (reach i v)) _
                    (some_below-at (length p) (reach i v) l lt old)
                | inr new ↦ or_right (some_below (length p) (reach i v)) _ new
              ]
          | inr other ↦ or_left (some_below (length p) (reach i v)) _
              (some_below-at (length p) (reach i v) r.0 r.1 (sym (other-same r.0 v other) ∙ r.2))
        ]

    kept : (v : Variant) (j : ℕ) → reach i v j ≡ true → reach (suc i) v j ≡ true
    kept v j e =
        elim (cases_eq j l) [
          | inl own ↦
              ap (reach (suc i) v) own ∙ own-more v
              ∙ or_left (reach i v l) _ (sym (ap (reach i v) own) ∙ e)
          | inr other ↦ other-same j v other ∙ e
        ]

    some-back : (v : Variant) → (some_below (length p) (reach i v) || gives u v x) ≡ true
        → some_below (length p) (reach (suc i) v) ≡ true
    some-back v e =
        elim (or_cases (some_below (length p) (reach i v)) _ e) [
          | inl old ↦ some_below-mono (length p) (reach i v) (reach (suc i) v) (λ j j_lt. kept v j)
              old
          | inr new ↦ some_below-at (length p) (reach (suc i) v) l lt
              (own-more v ∙ or_right (reach i v l) _ new)
        ]

    associated : (a b c : Bool) → ((a || b) || c) ≡ (a || (b || c))
    associated true b c = refl
    associated false b c = refl

    pub possible_after : (row : List ℕ)
        → IsRowOf u (λ v. possible u p l i v || gives u v x) row
        → IsRowOf u (possible u p l (suc i)) row
    unfolding possible
    possible_after row is =
        row_same u _ _ row
        (λ v. associated (initial u v) (some_below (length p) (reach i v)) (gives u v x)
        ∙ ap (λ b. initial u v || b) (same_tests _ _ (some-back v) (some-more v)))
        is
