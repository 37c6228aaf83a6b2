-- The name in front of a text, by its length.
use Rattle.std.proofs.Common.{◌≡◌, ℕ, ◌<◌, ◌≤◌, Bool, true, false, List, [], ◌∷◌, ◌++◌, length, Some, None, refl, ap, arith, length-append, inl, inr, if◌then◌else◌}
use Rattle.std.specs.List.{list_any}
use Rattle.std.proofs.lemmas.Bool.{cases_Bool, and_right, or_parts}
use Rattle.std.proofs.lemmas.List.{append-nil}
use Rattle.deb_text.specs.Cuts.{is_nil, before, after}
use Rattle.deb_stanza.specs.Stanza.{is_colon, name_of, same_name}

-- names of different lengths differ
other-length : (xs ys : List ℕ) → (length xs ≡ length ys → ⊥) → same_name xs ys ≡ false
other-length [] [] other = absurd (other refl)
other-length [] (y ∷ ys) other = refl
other-length (x ∷ xs) [] other = refl
other-length (x ∷ xs) (y ∷ ys) other =
    rw (other-length xs ys (λ same. other (omega (arith, same)))) (and_right _ false refl)

module _ {X : Type 0} (p : X → Bool) where
  before-within : (xs : List X) → length (before p xs) ≤ length xs
  before-within [] = omega arith
  before-within (x ∷ xs) =
      elim (cases_Bool (p x)) [
        | inl is ↦ rw is (omega arith)
        | inr is ↦ rw is (omega (arith, before-within xs))
      ]

  before-shorter : (xs ys : List X) → list_any p xs ≡ true
      → length (before p (xs ++ ys)) < length xs
  before-shorter [] ys some = absurd cc
  before-shorter (x ∷ xs) ys some =
      elim (cases_Bool (p x)) [
        | inl is ↦ rw is (omega arith)
        | inr is ↦ rw is (omega (arith, before-shorter xs ys (rw is at some)))
      ]

  before-append : (xs ys : List X) → list_any p xs ≡ false
      → before p (xs ++ ys) ≡ xs ++ before p ys
  before-append [] ys none = refl
  before-append (x ∷ xs) ys none =
      let parts = or_parts (p x) (list_any p xs) none in
      rw parts.0 (ap (λ zs. x ∷ zs) (before-append xs ys parts.1))

  after-append : (xs ys : List X) → list_any p xs ≡ false → after p (xs ++ ys) ≡ after p ys
  after-append [] ys none = refl
  after-append (x ∷ xs) ys none =
      let parts = or_parts (p x) (list_any p xs) none in rw parts.0 (after-append xs ys parts.1)

some-length : (xs : List ℕ) → is_nil xs ≡ false → 0 < length xs
some-length [] some = absurd cc
some-length (x ∷ xs) some = omega arith

-- a text that is shorter than the name
pub other-short : (name text : List ℕ) → length text < length name
    → same_name name (name_of text) ≡ false
other-short name text short =
    other-length name (name_of text)
    (λ same. omega (arith, same, before-within is_colon text))

-- whether this is the name of a text, by a front of its length
module _ (name text given rest : List ℕ) (cut : given ++ rest ≡ text)
    (same : length given ≡ length name) where
  -- a colon stands in front
  pub other-colon : list_any is_colon given ≡ true → same_name name (name_of text) ≡ false
  other-colon some =
      rw (← cut)
      (other-length name (name_of (given ++ rest))
      (λ is. omega (arith, is, same, before-shorter is_colon given rest some)))

  -- none stands behind it
  pub other-long : is_nil (name_of rest) ≡ false → same_name name (name_of text) ≡ false
  other-long more =
      elim (cases_Bool (list_any is_colon given)) [
        | inl some ↦ other-colon some
        | inr none ↦ rw (← cut, before-append is_colon given rest none)
            (other-length name (given ++ name_of rest)
            (λ is. omega (
              arith,
              is,
              same,
              length-append given (name_of rest),
              some-length (name_of rest) more,
            )))
      ]

  module _ (ends : name_of rest ≡ []) where
    pub other-name : same_name name given ≡ false → same_name name (name_of text) ≡ false
    other-name other =
        elim (cases_Bool (list_any is_colon given)) [
          | inl some ↦ other-colon some
          | inr none ↦ rw (← cut, before-append is_colon given rest none, ends, append-nil given)
              other
        ]

    pub this-name : list_any is_colon given ≡ false → same_name name given ≡ true
        → (if same_name name (name_of text) then Some (after is_colon text) else None)
        ≡ Some (after is_colon rest)
    this-name none is =
        rw (
          ← cut,
          before-append is_colon given rest none,
          after-append is_colon given rest none,
          ends,
          append-nil given,
          is,
        ) refl
