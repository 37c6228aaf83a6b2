-- The longest front of a list by its length, and a list less its end.
use Rattle.std.proofs.Common.{◌≡◌, ◌+◌, ◌-◌, ◌≤◌, Bool, true, false, ◌&&◌, List, [], ◌∷◌, ◌++◌, length, get_or, take, drop, refl, sym, ap, ◌∙◌, one-add, arith, inl, inr}
use Rattle.std.proofs.lemmas.Bool.{cases_Bool, and_right, and_parts, or_parts}
use Rattle.std.proofs.lemmas.List.{take_all, take_more}
use Rattle.std.proofs.lemmas.List.Folds.{list_all-append}
use Rattle.std.specs.List.{prefix_len, list_all, list_any}
use Rattle.deb_text.specs.Cuts.{first_is, before, after, front, behind, without_end}

and_true : (b : Bool) → (b && true) ≡ b
and_true true = refl
and_true false = refl

module _ {X : Type 0} (p : X → Bool) where
  pub front_take : (xs : List X) → front p xs ≡ take (prefix_len p xs) xs
  front_take [] = refl
  front_take (x ∷ xs) =
      elim (cases_Bool (p x)) [
        | inl is ↦ rw (is, one-add) (ap (λ ys. x ∷ ys) (front_take xs))
        | inr is ↦ rw is refl
      ]

  pub behind_drop : (xs : List X) → behind p xs ≡ drop (prefix_len p xs) xs
  behind_drop [] = refl
  behind_drop (x ∷ xs) =
      elim (cases_Bool (p x)) [
        | inl is ↦ rw (is, one-add) (behind_drop xs)
        | inr is ↦ rw is refl
      ]

  pub behind_shorter : (xs : List X) → length (behind p xs) ≤ length xs
  behind_shorter [] = omega arith
  behind_shorter (x ∷ xs) =
      elim (cases_Bool (p x)) [
        | inl is ↦ rw is (omega (arith, behind_shorter xs))
        | inr is ↦ rw is (omega arith)
      ]

  -- a last element that passes is cut off
  pub without_end-cut : (xs : List X) (x : X) → p x ≡ true
      → without_end p (xs ++ x ∷ []) ≡ without_end p xs
  without_end-cut [] x is = rw is refl
  without_end-cut (y ∷ ys) x is =
      rw (list_all-append p ys (x ∷ []), is, and_true (list_all p ys), without_end-cut ys x is) refl

  -- one that doesn't stays
  pub without_end-stays : (xs : List X) (x : X) → p x ≡ false
      → without_end p (xs ++ x ∷ []) ≡ xs ++ x ∷ []
  without_end-stays [] x is = rw is refl
  without_end-stays (y ∷ ys) x is =
      rw (
        list_all-append p ys (x ∷ []),
        is,
        and_right (list_all p ys) false refl,
        and_right (p y) false refl,
      ) (ap (λ zs. y ∷ zs) (without_end-stays ys x is))

  front_last : (xs : List X) (d : X) → 1 ≤ length xs
      → xs ≡ take (length xs - 1) xs ++ get_or xs (length xs - 1) d ∷ []
  front_last xs d some =
      sym (take_all (length xs - 1 + 1) xs (omega arith))
      ∙ take_more xs (length xs - 1) d (omega arith)

  -- the same of the last element by its place
  pub without_end-shorter : (xs : List X) (d : X) → 1 ≤ length xs
      → p (get_or xs (length xs - 1) d) ≡ true
      → without_end p (take (length xs - 1) xs) ≡ without_end p xs
  without_end-shorter xs d some is =
      sym (ap (without_end p) (front_last xs d some)
      ∙ without_end-cut (take (length xs - 1) xs) (get_or xs (length xs - 1) d) is)

  pub without_end-whole : (xs : List X) (d : X) → 1 ≤ length xs
      → p (get_or xs (length xs - 1) d) ≡ false → without_end p xs ≡ xs
  without_end-whole xs d some is =
      ap (without_end p) (front_last xs d some)
      ∙ without_end-stays (take (length xs - 1) xs) (get_or xs (length xs - 1) d) is
      ∙ sym (front_last xs d some)

  -- where none passes
  pub before-none : (xs : List X) → list_any p xs ≡ false → before p xs ≡ xs
  before-none [] none = refl
  before-none (x ∷ xs) none =
      let parts = or_parts (p x) (list_any p xs) none in
      rw parts.0 (ap (λ ys. x ∷ ys) (before-none xs parts.1))

  pub after-none : (xs : List X) → list_any p xs ≡ false → after p xs ≡ []
  after-none [] none = refl
  after-none (x ∷ xs) none =
      let parts = or_parts (p x) (list_any p xs) none in rw parts.0 (after-none xs parts.1)

  -- all of a front pass
  pub front-passes : (xs : List X) → list_all p (front p xs) ≡ true
  front-passes [] = refl
  front-passes (x ∷ xs) =
      elim (cases_Bool (p x)) [
        | inl is ↦ rw (is, is) (front-passes xs)
        | inr is ↦ rw is refl
      ]

  -- a front that was written before something that does not pass is found again
  pub front-again : (xs rest : List X) → list_all p xs ≡ true → first_is p rest ≡ false
      → front p (xs ++ rest) ≡ xs
  front-again [] [] are stops = refl
  front-again [] (y ∷ ys) are stops = rw stops refl
  front-again (x ∷ xs) rest are stops =
      let both = and_parts (p x) (list_all p xs) are in
      rw both.0 (ap (λ ys. x ∷ ys) (front-again xs rest both.1 stops))

  -- and so is what stands behind it
  pub behind-again : (xs rest : List X) → list_all p xs ≡ true → first_is p rest ≡ false
      → behind p (xs ++ rest) ≡ rest
  behind-again [] [] are stops = refl
  behind-again [] (y ∷ ys) are stops = rw stops refl
  behind-again (x ∷ xs) rest are stops =
      let both = and_parts (p x) (list_all p xs) are in
      rw both.0 (behind-again xs rest both.1 stops)
