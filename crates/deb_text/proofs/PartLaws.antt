-- The parts of a list that is cut at each element that passes.
use Rattle.std.proofs.Common.{◌≡◌, Bool, true, false, not, List, [], ◌∷◌, ◌++◌, refl, inl, inr}
use Rattle.std.proofs.lemmas.Bool.{cases_Bool, and_parts, not-true, or_parts}
use Rattle.std.proofs.lemmas.List.{append-nil}
use Rattle.std.specs.List.{slice_split, list_all, list_any, flat_map}
use Rattle.deb_text.specs.Cuts.{before, after}

module _ {X : Type 0} (p : X → Bool) where
  -- with no separator there is one part
  pub split-none : (xs : List X) → list_any p xs ≡ false → slice_split p xs ≡ xs ∷ []
  split-none [] none = refl
  split-none (x ∷ xs) none =
      let both = or_parts (p x) (list_any p xs) none in rw (both.0, split-none xs both.1) refl

  -- the first part, and the parts behind its separator
  pub split-some : (xs : List X) → list_any p xs ≡ true
      → slice_split p xs ≡ before p xs ∷ slice_split p (after p xs)
  split-some [] some = absurd cc
  split-some (x ∷ xs) some =
      elim (cases_Bool (p x)) [
        | inl is ↦ rw is refl
        | inr is ↦ (let h = rw is at some in rw (is, split-some xs h) refl)
      ]

  -- there is a first part
  pub split-cons : (xs : List X) → (q : List X) × (ps : List (List X)) × (slice_split p xs ≡ q ∷ ps)
  split-cons [] = ([], [], refl)
  split-cons (x ∷ xs) =
      elim (cases_Bool (p x)) [
        | inl is ↦ rw is ([], slice_split p xs, refl)
        | inr is ↦ (let h = split-cons xs in rw (is, h.2) (x ∷ h.0, h.1, refl))
      ]

  -- ---- parts that hold no separator, written one behind the other

  -- a part before a separator is the first one
  pub split-again : (part rest : List X) (s : X) → list_any p part ≡ false → p s ≡ true
      → slice_split p (part ++ s ∷ rest) ≡ part ∷ slice_split p rest
  split-again [] rest s none is = rw is refl
  split-again (x ∷ xs) rest s none is =
      let both = or_parts (p x) (list_any p xs) none in
      rw (both.0, split-again xs rest s both.1 is) refl

  -- parts with the same separator before each but the first
  pub parts-again : (s : X) → p s ≡ true → (part : List X) (parts : List (List X))
      → list_any p part ≡ false → list_all (λ q. not (list_any p q)) parts ≡ true
      → slice_split p (part ++ flat_map (λ q. s ∷ q) parts) ≡ part ∷ parts
  parts-again s is part [] none are = rw (append-nil part) (split-none part none)
  parts-again s is part (q ∷ qs) none are =
      let both = and_parts (not (list_any p q)) (list_all (λ q. not (list_any p q)) qs) are in
      rw (
        split-again part (q ++ flat_map (λ q. s ∷ q) qs) s none is,
        parts-again s is q qs (not-true (list_any p q) both.0) both.1,
      ) refl
