-- Rows of tests.
use Rattle.std.proofs.Common.{◌≡◌, ℕ, suc, ◌+◌, ◌<◌, ◌≤◌, nat_lt, Bool, false, List, [], ◌∷◌, ◌++◌, length, take, get_or, inl, inr, sym, ap, subst, ◌∙◌, arith}
use Rattle.std.specs.List.{AllZip}
use Rattle.std.proofs.Math.Seq.{take-suc}
use Rattle.std.proofs.lemmas.Slice.Zip.{all_zipped_more}
use Rattle.std.proofs.lemmas.Bool.{cases_lt, and_left}
use Rattle.std.proofs.lemmas.Bool.Decides.{nat_tests}
use Rattle.std.proofs.lemmas.List.{get_or_past}
use Rattle.clause_kernel.specs.Rows.{word_has}
use Rattle.clause_kernel.proofs.Words.{word_has_zero}
use Rattle.bit_rows.specs.Sets.{variants_of}
use Rattle.farm_model.specs.Common.{Universe, names}
use Rattle.farm_model.specs.declared.types.Variant.{Variant}
use Rattle.farm_universe.proofs.PlaceLaws.{no_variants}
use Rattle.sat_rows.specs.Rows.{variant_passes, IsRowOf}

-- what is no name has no variant that passes
none_past : (u : Universe) (p : Variant → Bool) (n b : ℕ) → names u ≤ n
    → variant_passes u p n b ≡ false
none_past u p n b past =
    let none : nat_lt b 0 ≡ false = grind (arith, nat_tests) in
    and_left _ _ (ap (λ m. nat_lt b m) (no_variants u n past) ∙ none)

-- a row that is right at each name is right
pub row_from_names : (u : Universe) (p : Variant → Bool) (row : List ℕ) → length row ≡ names u
    → ((n b : ℕ) → n < names u → variants_of row n b ≡ variant_passes u p n b) → IsRowOf u p row
row_from_names u p row long each = record { long = long; set = λ n b. at n b }
  where
    at : (n b : ℕ) → variants_of row n b ≡ variant_passes u p n b
    at n b =
        elim (cases_lt n (names u)) [
          | inl there ↦ each n b there
          | inr past ↦
              ap (λ w. word_has w b) (get_or_past row n 0 (omega arith))
              ∙ word_has_zero b ∙ sym (none_past u p n b past)
        ]

-- one more element, and what it is paired with
pub all_zip_next : {A B : Type 0} (R : A → B → Type 0) (xs : List A) (ys : List B) (i : ℕ) (x : A)
    (y : B) → i < length xs → x ≡ get_or xs i x → AllZip R (take i xs) ys → R x y
    → AllZip R (take (i + 1) xs) (ys ++ y ∷ [])
all_zip_next R xs ys i x y lt is so_far here =
    subst (λ front. AllZip R front (ys ++ y ∷ []))
    (ap (λ z. take i xs ++ z ∷ []) is ∙ sym (take-suc xs i x lt)
    ∙ ap (λ k. take k xs) (let e : suc i ≡ i + 1 = omega arith in e))
    (all_zipped_more R (take i xs) ys x y so_far here)
