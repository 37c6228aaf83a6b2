-- The inclusions and their tests, place by place.
use Rattle.std.proofs.Common.{◌≡◌, ◌⊎◌, inl, inr, ℕ, zero, suc, ◌<◌, ◌≤◌, true, not, ◌||◌, length, Some, sym, ap, subst, ◌∙◌, arith}
use Rattle.std.proofs.lemmas.Bool.{or_cases, or_left, or_right, both_ways, not-true, not_from_false, cases_Bool, cases_lt}
use Rattle.farm_model.specs.Common.{Universe, IsUniverse}
use Rattle.farm_model.specs.declared.types.Variant.{Variant}
use Rattle.farm_model.proofs.BelowLaws.{every_below-all}
use Rattle.plan_model.specs.Common.{Plan, lane, instruction_at, Rows, Adds, row_before, KeepsRows}
use Rattle.plan_model.specs.declared.instructions.Instruction.{Instruction}
use Rattle.verdict_laws.specs.Greatest.{adds_some, row_before_some, allowed, is_settled, AreKnown}
use Rattle.verdict_laws.proofs.Inclusions.{every_variant-all, every_variant-at, adds-sound, adds-complete}
use Rattle.verdict_laws.proofs.Rounds.{settled_rows_keep}
use Rattle.verdict_laws.proofs.Unions.{there}
use Rattle.verdict_laws.specs.Places.{IsJustified, is_justified, EachTestIsExact, KeepingIsByPlace, SettledRowsAreKeeping, FirstUnjustifiedIsOne}

module _ (u : Universe) (p : Plan) (rows : Rows) (is : IsUniverse u) (l : ℕ) where
  -- of one variant
  allowed-sound : (i : ℕ) (v : Variant) → allowed u p rows l (suc i) v ≡ true → (x : Instruction)
      → instruction_at p l i ≡ Some x
      → (rows l (row_before p l i x) v ≡ true) ⊎ Adds u p rows l i v x
  allowed-sound i v e x at =
      elim (or_cases (rows l (row_before_some p l i (instruction_at p l i)) v) _ e) [
        | inl old ↦ inl (sym (ap (λ o. rows l (row_before_some p l i o) v) at) ∙ old)
        | inr new ↦
            inr (adds-sound u is p rows l i v x (sym (ap (adds_some u p rows l i v) at) ∙ new))
      ]

  allowed-complete : (i : ℕ) (v : Variant) (x : Instruction) → instruction_at p l i ≡ Some x
      → (rows l (row_before p l i x) v ≡ true) ⊎ Adds u p rows l i v x
      → allowed u p rows l (suc i) v ≡ true
  allowed-complete i v x at (inl old) =
      or_left (rows l (row_before_some p l i (instruction_at p l i)) v) _
      (ap (λ o. rows l (row_before_some p l i o) v) at ∙ old)
  allowed-complete i v x at (inr new) =
      or_right (rows l (row_before_some p l i (instruction_at p l i)) v) _
      (ap (adds_some u p rows l i v) at ∙ adds-complete u is p rows l i v x new)

  -- of all that the row has
  tested : (known : AreKnown u rows) (i : ℕ) → is_justified u p rows l i ≡ true → (v : Variant)
      → rows l i v ≡ true → allowed u p rows l i v ≡ true
  unfolding is_justified
  tested known i e v here =
      elim (or_cases (not (rows l i v)) _
      (every_variant-at u (λ w. not (rows l i w) || allowed u p rows l i w) v (known l i v here)
      e)) [
        | inl none ↦ absurd (both_ways _ (not-true _ none) here)
        | inr fine ↦ fine
      ]

  tests : (i : ℕ) → ((v : Variant) → rows l i v ≡ true → allowed u p rows l i v ≡ true)
      → is_justified u p rows l i ≡ true
  unfolding is_justified
  tests i h =
      every_variant-all u (λ w. not (rows l i w) || allowed u p rows l i w)
      (λ v. elim (cases_Bool (rows l i v)) [
        | inl here ↦ or_right (not (rows l i v)) _ (h v here)
        | inr none ↦ or_left (not (rows l i v)) _ (not_from_false _ none)
      ])

  test-sound : AreKnown u rows → (i : ℕ) → is_justified u p rows l i ≡ true
      → IsJustified u p rows l i
  test-sound known zero e = tested known 0 e
  test-sound known (suc i) e = λ x v at here. allowed-sound i v (tested known (suc i) e v here) x at

  test-complete : (i : ℕ) → i ≤ length (lane p l).instructions → IsJustified u p rows l i
      → is_justified u p rows l i ≡ true
  test-complete zero le j = tests 0 j
  test-complete (suc i) le j =
      let x = there p l i (omega (arith, le)) in
      tests (suc i) (λ v here. allowed-complete i v x.0 x.1 (j x.0 v x.1 here))

pub each_test_is_exact : EachTestIsExact
each_test_is_exact u p rows sound known l i lt le = (
  test-sound u p rows sound.universe l known i,
  test-complete u p rows sound.universe l i le,
)

by_place : (u : Universe) (p : Plan) (rows : Rows) → KeepsRows u p rows → (l i : ℕ) → l < length p
    → IsJustified u p rows l i
by_place u p rows keeps l zero lt = λ v e. keeps.at_start l v lt e
by_place u p rows keeps l (suc i) lt = λ x v at e. keeps.after l i x v lt at e

pub keeping_is_by_place : KeepingIsByPlace
keeping_is_by_place u p rows = (
  by_place u p rows,
  λ each. record {
    at_start = λ l v lt e. each l 0 lt v e;
    after = λ l i x v lt at e. each l (suc i) lt x v at e;
  },
)

pub settled_rows_are_keeping : SettledRowsAreKeeping
unfolding is_settled is_justified
settled_rows_are_keeping u p rows sound known = (
  settled_rows_keep u p rows sound known,
  λ keeps. every_below-all (length p) _
      (λ l lt. every_below-all (suc (length (lane p l).instructions)) _
      (λ i lt'. test-complete u p rows sound.universe l i (omega (arith, lt'))
      (by_place u p rows keeps l i lt))),
)

pub first_unjustified_is_one : FirstUnjustifiedIsOne
first_unjustified_is_one u p rows l i k j a b =
    elim (cases_lt l k) [
      | inl less ↦ absurd (a.here (b.lanes_before l i less))
      | inr le ↦ elim (cases_lt k l) [
        | inl more ↦ absurd (b.here (a.lanes_before k j more))
        | inr ge ↦
            let same : l ≡ k = omega (arith, le, ge) in
            elim (cases_lt i j) [
              | inl less ↦ absurd (a.here
                  (subst (λ n. IsJustified u p rows n i) (sym same) (b.before i less)))
              | inr le2 ↦ elim (cases_lt j i) [
                | inl more ↦ absurd (b.here
                    (subst (λ n. IsJustified u p rows n j) same (a.before j more)))
                | inr ge2 ↦ (same, omega (arith, le2, ge2))
              ]
            ]
      ]
    ]
