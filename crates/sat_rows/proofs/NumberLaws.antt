-- Numbers of entries, which stay as others come.
use Rattle.std.proofs.Common.{ℕ, List, [], ◌∷◌, get_or}
use Rattle.std.specs.List.{AllZip}
use Rattle.deb_relation.specs.Relations.{Entry}
use Rattle.farm_model.specs.Common.{Universe, variant, pre_depends, depends}
use Rattle.farm_model.specs.declared.types.Variant.{Variant}
use Rattle.sat_rows.specs.ByVariant.{AreValuesOfName}
use Rattle.sat_rows.specs.Entries.{IsGrown, IsNumberOf, AreNumbers, AreVariantNumbers, Numbers, no_numbers}

pub grown_trans : (a b c : List Entry) → IsGrown a b → IsGrown b c → IsGrown a c
grown_trans a b c first next n e is = next n e (first n e is)

-- what holds of each pair implies another
pub all_zip_weaker : {A B : Type 0} (R S : A → B → Type 0) → ((x : A) (y : B) → R x y → S x y)
    → (xs : List A) (ys : List B) → AllZip R xs ys → AllZip S xs ys
all_zip_weaker R S on [] [] all = all
all_zip_weaker R S on [] (y ∷ ys) all = absurd all
all_zip_weaker R S on (x ∷ xs) [] all = absurd all
all_zip_weaker R S on (x ∷ xs) (y ∷ ys) all = (on x y all.0, all_zip_weaker R S on xs ys all.1)

module _ (a b : List Entry) (grown : IsGrown a b) where
  pub numbers_grown : (u : Universe) (v : Variant) (numbers : Numbers) → AreNumbers u a v numbers
      → AreNumbers u b v numbers
  numbers_grown u v numbers are =
      record {
        pre_depends = all_zip_weaker (IsNumberOf a) (IsNumberOf b) (λ e n. grown n e) (pre_depends u v)
            numbers.pre_depends are.pre_depends;
        depends = all_zip_weaker (IsNumberOf a) (IsNumberOf b) (λ e n. grown n e) (depends u v)
            numbers.depends are.depends;
      }

  pub name_grown : (u : Universe) (n : ℕ) (values : List Numbers)
      → AreValuesOfName u (AreNumbers u a) no_numbers n values
      → AreValuesOfName u (AreNumbers u b) no_numbers n values
  name_grown u n values are =
      record {
        long = are.long;
        each = λ k lt. numbers_grown u (variant n k) (get_or values k no_numbers) (are.each k lt);
      }

  pub numbered_grown : (u : Universe) (lists : List (List Numbers)) → AreVariantNumbers u a lists
      → AreVariantNumbers u b lists
  numbered_grown u lists are =
      record {
        long = are.long;
        each = λ n lt. name_grown u n (get_or lists n []) (are.each n lt);
      }
