-- The entries of a field of each variant, listed by number.
use Rattle.std.proofs.Common.{◌≡◌, ◌⊎◌, ℕ, ◌+◌, ◌<◌, true, ◌&&◌, ◌||◌, ◌==◌, List, [], Some, refl, sym, ap, subst, ◌∙◌, inl, inr, arith}
use Rattle.std.specs.List.{slice_get}
use Rattle.std.proofs.lemmas.Bool.{cases_lt, and_parts, and_from, or_cases, or_left, or_right, eqb-true, eq-eqb}
use Rattle.clause_kernel.specs.Rows.{word_has}
use Rattle.clause_kernel.proofs.Words.{word_has_zero}
use Rattle.deb_relation.specs.Relations.{Entry, Relations}
use Rattle.farm_model.specs.Common.{Package, Universe, variant, package_of}
use Rattle.sat_rows.specs.declared.found.NumberWord.{NumberWord}
use Rattle.sat_rows.specs.Entries.{IsGrown}
use Rattle.sat_rows.specs.Found.{among, Puts}
use Rattle.sat_rows.specs.Links.{IsEntryOf, IsNoted, IsNumbered}
use Rattle.sat_rows.specs.Fields.{AddsField}

-- a word of one bit
pub one_bit : (word bit b : ℕ) → word_has word b ≡ (word_has 0 b || (true && (b == bit)))
    → word_has word b ≡ (b == bit)
one_bit word bit b is = is ∙ ap (λ x. x || (b == bit)) (word_has_zero b)

module _ (a b : List Entry) (grown : IsGrown a b) where
  entry_grown : (field : Relations) (k : ℕ) → IsEntryOf a field k → IsEntryOf b field k
  entry_grown field k is =
      record {
        place = is.place;
        entry = is.entry;
        there = is.there;
        number = grown k is.entry is.number;
      }

  noted_grown : (e : Entry) (bit : ℕ) (old new : List NumberWord)
      → ((k b : ℕ) → among old k b ≡ true → among new k b ≡ true) → IsNoted a e bit old
      → IsNoted b e bit new
  noted_grown e bit old new kept is =
      record {
        number = is.number;
        is = grown is.number e is.is;
        has = kept is.number bit is.has;
      }

  pub numbered_grown : (u : Universe) (field : Package → Relations) (n count : ℕ)
      (vs : List NumberWord) → IsNumbered u field a n count vs → IsNumbered u field b n count vs
  numbered_grown u field n count vs is =
      record {
        only = λ k bit has.
            let told = is.only k bit has in
            (told.0, entry_grown (field (package_of u (variant n bit))) k told.1);
        every = λ bit i e lt at. noted_grown e bit vs vs (λ k b has. has) (is.every bit i e lt at);
      }

-- the first entries of a field
pub record AddsFirst (entries : List Entry) (field : Relations) (bit count : ℕ)
    (old new : List NumberWord) : Type 0 where
  pub kept : (k b : ℕ) → among old k b ≡ true → among new k b ≡ true
  pub only : (k b : ℕ) → among new k b ≡ true
      → (among old k b ≡ true) ⊎ ((b ≡ bit) × IsEntryOf entries field k)
  pub every : (i : ℕ) (e : Entry) → i < count → slice_get field i ≡ Some e
      → IsNoted entries e bit new

pub adds_none : (entries : List Entry) (field : Relations) (bit : ℕ) (vs : List NumberWord)
    → AddsFirst entries field bit 0 vs vs
adds_none entries field bit vs =
    record {
      kept = λ k b has. has;
      only = λ k b has. inl has;
      every = λ i e lt. absurd
          (omega arith);
    }

-- one entry more
module _ (a b : List Entry) (grown : IsGrown a b) (field : Relations) (bit i : ℕ) (e : Entry)
    (there : slice_get field i ≡ Some e) (start old new : List NumberWord)
    (so_far : AddsFirst a field bit i start old) (number word : ℕ)
    (is : slice_get b number ≡ Some e) (put : Puts number word old new)
    (one : (k : ℕ) → word_has word k ≡ (k == bit)) where
  stays : (k c : ℕ) → among old k c ≡ true → among new k c ≡ true
  stays k c has = put k c ∙ or_left (among old k c) _ has

  only_next : (k c : ℕ) → among new k c ≡ true
      → (among start k c ≡ true) ⊎ ((c ≡ bit) × IsEntryOf b field k)
  only_next k c has =
      elim (or_cases (among old k c) _ (sym (put k c) ∙ has)) [
        | inl before ↦ elim (so_far.only k c before) [
          | inl first ↦ inl first
          | inr told ↦ inr (told.0, entry_grown a b grown field k told.1)
        ]
        | inr here ↦
            let parts = and_parts (k == number) _ here in
            let same = eqb-true k number parts.0 in
            inr (
              eqb-true c bit (sym (one c) ∙ parts.1),
              record {
                place = i;
                entry = e;
                there = there;
                number = subst (λ k. slice_get b k ≡ Some e) (sym same) is;
              },
            )
      ]

  last : (f : Entry) → slice_get field i ≡ Some f → IsNoted b f bit new
  last f at =
      record {
        number = number;
        is = is ∙ (sym there ∙ at);
        has = put number bit
            ∙ or_right (among old number bit) _
            (and_from _ _ (eq-eqb number number refl) (one bit ∙ eq-eqb bit bit refl));
      }

  pub adds_next : AddsFirst b field bit (i + 1) start new
  adds_next =
      record {
        kept = λ k c has. stays k c (so_far.kept k c has);
        only = only_next;
        every = λ j f lt at. elim (cases_lt j i) [
          | inl before ↦ noted_grown a b grown f bit old new stays (so_far.every j f before at)
          | inr ge ↦
              let same : j ≡ i = omega arith in
              last f (subst (λ j. slice_get field j ≡ Some f) same at)
        ];
      }

pub adds_all : (entries : List Entry) (field : Relations) (bit count : ℕ)
    (old new : List NumberWord)
    → ((i : ℕ) (e : Entry) → slice_get field i ≡ Some e → i < count)
    → AddsFirst entries field bit count old new → AddsField entries field bit old new
adds_all entries field bit count old new short is =
    record {
      kept = is.kept;
      only = is.only;
      every = λ i e at. is.every i e (short i e at) at;
    }

-- no variant
pub numbered_none : (u : Universe) (field : Package → Relations) (entries : List Entry) (n : ℕ)
    → IsNumbered u field entries n 0 []
numbered_none u field entries n =
    record { only = λ k b has. absurd cc; every = λ b i e lt. absurd (omega arith) }

-- one variant more
pub numbered_next : (u : Universe) (field : Package → Relations) (a b : List Entry)
    → IsGrown a b → (n bit : ℕ) (old new : List NumberWord) → IsNumbered u field a n bit old
    → AddsField b (field (package_of u (variant n bit))) bit old new
    → IsNumbered u field b n (bit + 1) new
numbered_next u field a b grown n bit old new so_far adds =
    record {
      only = λ k c has. elim (adds.only k c has) [
        | inl before ↦
            let told = so_far.only k c before in (
              omega (arith, told.0),
              entry_grown a b grown (field (package_of u (variant n c))) k
                  told.1,
            )
        | inr here ↦ (
          omega (arith, here.0),
          subst (λ c. IsEntryOf b (field (package_of u (variant n c))) k) (sym here.0) here.1,
        )
      ];
      every = λ c i e lt at. elim (cases_lt c bit) [
        | inl before ↦ noted_grown a b grown e c old new adds.kept (so_far.every c i e before at)
        | inr ge ↦
            let same : c ≡ bit = omega arith in
            subst (λ c. IsNoted b e c new) (sym same)
            (adds.every i e
            (subst (λ c. slice_get (field (package_of u (variant n c))) i ≡ Some e) same at))
      ];
    }
