-- Rows of the archive: one more variant, one more list of variants.
use Rattle.std.proofs.Common.{◌≡◌, inl, inr, ℕ, suc, ◌+◌, ◌<◌, Bool, true, false, ◌&&◌, ◌||◌, ◌==◌, nat_lt, List, [], ◌∷◌, length, take, get_or, refl, sym, ap, subst, ◌∙◌, arith}
use Rattle.std.specs.Cmp.{both_ways as same_tests}
use Rattle.std.specs.List.{list_any}
use Rattle.std.proofs.Math.Seq.{take-suc}
use Rattle.std.proofs.Math.Bool.{or-false}
use Rattle.std.proofs.lemmas.Bool.{eq-eqb, eqb-true, or_cases, or_left, or_right, and_parts, and_from, lt-ltb}
use Rattle.std.proofs.lemmas.List.Folds.{list_any-append}
use Rattle.bit_rows.specs.Sets.{variants_of, AddsVariant}
use Rattle.farm_model.specs.Common.{Universe, variant, names, variants, same, IsKnown}
use Rattle.farm_model.specs.declared.types.Variant.{Variant}
use Rattle.farm_laws.proofs.Archive.{same-true, same-refl}
use Rattle.sat_rows.specs.Rows.{variant_passes, IsRowOf}

-- a row of one test is that of another that passes in the same cases
pub row_same : (u : Universe) (p q : Variant → Bool) (row : List ℕ)
    → ((v : Variant) → p v ≡ q v) → IsRowOf u p row → IsRowOf u q row
row_same u p q row e is = record {
  long = is.long;
  set = λ n b. is.set n b ∙ ap (λ x. nat_lt b (variants u n) && x) (e (variant n b));
}

-- one more variant
pub row_added : (u : Universe) (test : Variant → Bool) (row next : List ℕ) (v : Variant)
    → IsKnown u v → IsRowOf u test row
    → AddsVariant (variants_of row) v.name v.bit (variants_of next) → length next ≡ names u
    → IsRowOf u (λ w. test w || same v w) next
row_added u test row next v known is adds long = record {
  long = long;
  set = λ n b. adds n b ∙ ap (λ x. x || ((n == v.name) && (b == v.bit))) (is.set n b)
      ∙ same_tests _ _ (there_to n b) (back n b);
}
  where
    now : Variant → Bool
    now w = test w || same v w

    there_to : (n b : ℕ) → (variant_passes u test n b || ((n == v.name) && (b == v.bit))) ≡ true
        → variant_passes u now n b ≡ true
    there_to n b h =
        elim (or_cases (variant_passes u test n b) _ h) [
          | inl old ↦
              let parts = and_parts (nat_lt b (variants u n)) _ old in
              and_from _ _ parts.0 (or_left (test (variant n b)) _ parts.1)
          | inr new ↦
              let parts = and_parts (n == v.name) (b == v.bit) new in
              let n_is = eqb-true n v.name parts.0 in
              let b_is = eqb-true b v.bit parts.1 in
              let here : variant n b ≡ v =
              ap (λ k. variant k b) n_is ∙ ap (λ k. variant v.name k) b_is in
              let k : b < variants u n =
              subst (λ (w : Variant). w.bit < variants u w.name) (sym here) known in
              and_from _ _ (lt-ltb b (variants u n) k)
              (or_right (test (variant n b)) _ (ap (same v) here ∙ same-refl v))
        ]

    back : (n b : ℕ) → variant_passes u now n b ≡ true
        → (variant_passes u test n b || ((n == v.name) && (b == v.bit))) ≡ true
    back n b h =
        let parts = and_parts (nat_lt b (variants u n)) _ h in
        elim (or_cases (test (variant n b)) _ parts.1) [
          | inl old ↦ or_left (variant_passes u test n b) _ (and_from _ _ parts.0 old)
          | inr new ↦
              let here : v ≡ variant n b = same-true v (variant n b) new in
              or_right (variant_passes u test n b) _ (and_from _ _
              (eq-eqb n v.name (ap (λ (w : Variant). w.name) (sym here)))
              (eq-eqb b v.bit (ap (λ (w : Variant). w.bit) (sym here))))
        ]

either : (a b c : Bool) → ((a || b) || c) ≡ (a || (b || c))
either true b c = refl
either false b c = refl

-- one more element of a list that is tested
pub any_more : {X : Type 0} (p : X → Bool) (xs : List X) (i : ℕ) (d : X) → i < length xs
    → list_any p (take (i + 1) xs) ≡ (list_any p (take i xs) || p (get_or xs i d))
any_more p xs i d lt =
    ap (λ k. list_any p (take k xs)) (let e : i + 1 ≡ suc i = omega arith in e)
    ∙ ap (list_any p) (take-suc xs i d lt)
    ∙ list_any-append p (take i xs) (get_or xs i d ∷ [])
    ∙ ap (λ x. list_any p (take i xs) || x) (or-false (p (get_or xs i d)))

-- what was tested so far, and one more
pub row_more : {X : Type 0} (u : Universe) (test : Variant → Bool) (gives : X → Variant → Bool)
    (xs : List X) (i : ℕ) (x : X) (row : List ℕ) → i < length xs → x ≡ get_or xs i x
    → IsRowOf u (λ v. (test v || list_any (λ y. gives y v) (take i xs)) || gives x v) row
    → IsRowOf u (λ v. test v || list_any (λ y. gives y v) (take (i + 1) xs)) row
row_more u test gives xs i x row lt at is =
    row_same u _ _ row
    (λ v. either (test v) (list_any (λ y. gives y v) (take i xs)) (gives x v)
    ∙ ap (λ y. test v || (list_any (λ z. gives z v) (take i xs) || gives y v)) at
    ∙ ap (λ b. test v || b) (sym (any_more (λ y. gives y v) xs i x lt)))
    is
