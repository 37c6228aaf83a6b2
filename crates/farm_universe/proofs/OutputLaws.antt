-- A recipe gives no more variants than there may be.
use Rattle.std.proofs.Common.{◌≡◌, ℕ, suc, ◌+◌, ◌*◌, ◌<◌, ◌≤◌, true, false, inl, inr, List, [], ◌∷◌, length, map, get_or, Some, refl, subst, arith, All}
use Rattle.std.specs.Prelude.{slice_get, ◌==◌}
use Rattle.std.proofs.lemmas.List.{length-map}
use Rattle.std.specs.List.{AllByRecursion, IsDistinct, list_any}
use Rattle.std.proofs.lemmas.Bool.{eqb-true, cases_Bool, or_cases, false≢true}
use Rattle.std.proofs.lemmas.List.Elements.{All-head, All-tail}
use Rattle.std.proofs.lemmas.Map.Steps.{length-le_from_distinct_below}
use Rattle.farm_model.specs.Common.{names, outputs, IsKnown, Universe}
use Rattle.farm_model.specs.declared.types.Variant.{Variant}
use Rattle.farm_universe.specs.declared.limits.TheConstants.{MOST_NAMES, MOST_VARIANTS}
use Rattle.farm_universe.specs.Kept.{IsKept}
use Rattle.farm_universe.proofs.PlaceLaws.{named}

-- a number for each variant
abbrev code : Variant → ℕ
code v = v.name * 64 + v.bit

-- a name and a bit within the limits
abbrev IsSmall : Variant → Type 0
IsSmall v = (v.name < 4096) × (v.bit < 64)

apart : (x : Variant) (ys : List Variant) → IsSmall x → All IsSmall ys
    → ((k : ℕ) → slice_get ys k ≡ Some x → ⊥)
    → AllByRecursion (λ c. (code x == c) ≡ false) (map code ys)
apart x [] small all none = tt
apart x (y ∷ ys) small all none =
    let head = All-head IsSmall y ys all in (
      elim (cases_Bool (code x == code y)) [
        | inl same ↦
            let equal = eqb-true (code x) (code y) same in
            let named : y.name ≡ x.name = omega (arith, equal, small.1, head.1) in
            let placed : y.bit ≡ x.bit = omega (arith, equal, small.1, head.1) in
            absurd (none 0 (λ i. Some (record { name = named i; bit = placed i })))
        | inr differs ↦ differs
      ],
      apart x ys small (All-tail IsSmall y ys all) (λ k is. none (suc k) is),
    )

distinct : (xs : List Variant) → All IsSmall xs
    → ((i j : ℕ) (v : Variant) → slice_get xs i ≡ Some v → slice_get xs j ≡ Some v → i ≡ j)
    → IsDistinct (λ a b. a == b) (map code xs)
unfolding IsDistinct
distinct [] all once = tt
distinct (x ∷ xs) all once = (
  apart x xs (All-head IsSmall x xs all) (All-tail IsSmall x xs all)
      (λ k is. let e = once 0 (suc k) x refl is in omega (arith, e)),
  distinct xs (All-tail IsSmall x xs all)
      (λ i j v a b. let e = once (suc i) (suc j) v a b in omega (arith, e)),
)

below : (xs : List Variant) → All IsSmall xs → (q : ℕ)
    → list_any (λ c. q == c) (map code xs) ≡ true → q < 4096 * 64
below [] all q there = absurd (false≢true there)
below (x ∷ xs) all q there =
    elim (or_cases (q == code x) _ there) [
      | inl here ↦
          let small = All-head IsSmall x xs all in
          let is = eqb-true q (code x) here in
          omega (arith, is, small.0, small.1)
      | inr later ↦ below xs (All-tail IsSmall x xs all) q later
    ]

is-small : (u : Universe) → IsKept u → (v : Variant) → IsKnown u v → IsSmall v
unfolding names
is-small u kept v known =
    let there = named u v.name v.bit known in (
      omega (arith, there, kept.few_names, kept.sound.listed),
      omega (arith, known, kept.sound.few v.name),
    )

pub few_outputs : (u : Universe) → IsKept u → (r : ℕ)
    → length (outputs u r) ≤ MOST_NAMES * MOST_VARIANTS
few_outputs u kept r =
    let small : All IsSmall (outputs u r) = λ k d lt. is-small u kept (get_or (outputs u r) k d)
    (kept.sound.outputs_known r k d lt) in
    subst (λ n. n ≤ 4096 * 64) (length-map (outputs u r) code)
    (length-le_from_distinct_below (map code (outputs u r)) (4096 * 64)
    (distinct (outputs u r) small (λ i j v a b. (kept.sound.outputs_once r r i j v a b).1))
    (below (outputs u r) small))
