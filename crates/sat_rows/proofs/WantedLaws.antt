-- The entries of variants, listed from their numbers.
use Rattle.std.proofs.Common.{◌≡◌, ◌==◌, ◌⊎◌, ℕ, zero, suc, ◌+◌, ◌<◌, ◌≤◌, List, [], ◌∷◌, ◌++◌, length, get_or, Some, refl, subst, inl, inr, arith}
use Rattle.std.specs.List.{AllZip, slice_get}
use Rattle.clause_kernel.specs.Rows.{word_has}
use Rattle.std.proofs.lemmas.Option.{slice_get_within}
use Rattle.std.proofs.lemmas.Slice.Zip.{AllZip-long}
use Rattle.deb_relation.specs.Relations.{Entry, Relations}
use Rattle.farm_model.specs.Common.{entries, Universe, package_of, depends, pre_depends}
use Rattle.farm_model.specs.declared.types.Variant.{Variant}
use Rattle.sat_rows.specs.Served.{wanted}
use Rattle.sat_rows.specs.declared.found.NumberWord.{NumberWord}
use Rattle.sat_rows.specs.Found.{Puts}
use Rattle.sat_rows.specs.Links.{IsEntryOf}
use Rattle.sat_rows.specs.Fields.{AddsField}
use Rattle.sat_rows.proofs.NoteLaws.{AddsFirst, adds_next, adds_all}

-- the entries of a variant are those of its package
pub wanted_is : (u : Universe) (v : Variant) → entries u v ≡ wanted (package_of u v)
unfolding depends pre_depends
wanted_is u v = refl

-- what stands beside an element
pub zip_at : {A B : Type 0} (R : A → B → Type 0) (xs : List A) (ys : List B) (i : ℕ) (d : B)
    → AllZip R xs ys → i < length ys → (x : A) × (slice_get xs i ≡ Some x) × R x (get_or ys i d)
zip_at R [] [] i d all lt = absurd (omega arith)
zip_at R [] (y ∷ ys) i d all lt = absurd all
zip_at R (x ∷ xs) [] i d all lt = absurd all
zip_at R (x ∷ xs) (y ∷ ys) zero d all lt = (x, refl, all.0)
zip_at R (x ∷ xs) (y ∷ ys) (suc i) d all lt = zip_at R xs ys i d all.1 (omega arith)

-- what stands in two lists, one behind the other
pub front_at : {A : Type 0} (xs ys : List A) (i : ℕ) (x : A) → slice_get xs i ≡ Some x
    → slice_get (xs ++ ys) i ≡ Some x
front_at [] ys i x at = absurd cc
front_at (y ∷ xs) ys zero x at = at
front_at (y ∷ xs) ys (suc i) x at = front_at xs ys i x at

pub behind_at : {A : Type 0} (xs ys : List A) (i : ℕ) (x : A) → slice_get ys i ≡ Some x
    → slice_get (xs ++ ys) (length xs + i) ≡ Some x
behind_at [] ys i x at =
    let same : i ≡ 0 + i = omega arith in subst (λ k. slice_get ys k ≡ Some x) same at
behind_at (y ∷ xs) ys i x at =
    let same : suc (length xs + i) ≡ length (y ∷ xs) + i = omega arith in
    subst (λ k. slice_get (y ∷ (xs ++ ys)) k ≡ Some x) same (behind_at xs ys i x at)

pub either_at : {A : Type 0} (xs ys : List A) (i : ℕ) (x : A) → slice_get (xs ++ ys) i ≡ Some x
    → (slice_get xs i ≡ Some x) ⊎ ((j : ℕ) × (slice_get ys j ≡ Some x))
either_at [] ys i x at = inr (i, at)
either_at (y ∷ xs) ys zero x at = inl at
either_at (y ∷ xs) ys (suc i) x at = either_at xs ys i x at

-- one number more
module _ {B : Type 0} (entries : List Entry) (R : Entry → B → Type 0) (number_of : B → ℕ)
    (numbered : (e : Entry) (y : B) → R e y → slice_get entries (number_of y) ≡ Some e)
    (field : Relations) (ys : List B) (all : AllZip R field ys) (bit : ℕ) where
  pub number_next : (i : ℕ) (d : B) → i < length ys → (start old new : List NumberWord) (word : ℕ)
      → AddsFirst entries field bit i start old → Puts (number_of (get_or ys i d)) word old new
      → ((k : ℕ) → word_has word k ≡ (k == bit)) → AddsFirst entries field bit (i + 1) start new
  number_next i d lt start old new word so_far put one =
      let at = zip_at R field ys i d all lt in
      adds_next entries entries (λ n e is. is) field bit i at.0 at.1 start old new so_far
      (number_of (get_or ys i d)) word (numbered at.0 (get_or ys i d) at.2) put one

  pub numbers_all : (i : ℕ) (old new : List NumberWord) → length ys ≤ i
      → AddsFirst entries field bit i old new → AddsField entries field bit old new
  numbers_all i old new whole is =
      adds_all entries field bit i old new
      (λ k e at. let within = slice_get_within field k e at in
      let long = AllZip-long R field ys all in omega (arith, within, long, whole)) is

-- the entries of two fields
pub adds_both : (entries : List Entry) (first second : Relations) (bit : ℕ)
    (old between new : List NumberWord) → AddsField entries first bit old between
    → AddsField entries second bit between new → AddsField entries (first ++ second) bit old new
adds_both entries first second bit old between new one two =
    record {
      kept = λ k b has. two.kept k b (one.kept k b has);
      only = λ k b has. elim (two.only k b has) [
        | inr here ↦ inr (here.0, behind k here.1)
        | inl before ↦ elim (one.only k b before) [
          | inl there ↦ inl there
          | inr here ↦ inr (here.0, front k here.1)
        ]
      ];
      every = λ i e at. elim (either_at first second i e at) [
        | inl here ↦
            let told = one.every i e here in
            record { number = told.number; is = told.is; has = two.kept told.number bit told.has }
        | inr here ↦ two.every here.0 e here.1
      ];
    }
  where
    front : (k : ℕ) → IsEntryOf entries first k → IsEntryOf entries (first ++ second) k
    front k is =
        record {
          place = is.place;
          entry = is.entry;
          there = front_at first second is.place is.entry is.there;
          number = is.number;
        }

    behind : (k : ℕ) → IsEntryOf entries second k → IsEntryOf entries (first ++ second) k
    behind k is =
        record {
          place = length first + is.place;
          entry = is.entry;
          there = behind_at first second is.place is.entry is.there;
          number = is.number;
        }
