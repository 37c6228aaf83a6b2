-- What a search through a list finds.
use Rattle.std.proofs.Common.{◌≡◌, zero, suc, Bool, true, sym, subst, ◌∙◌, inl, inr, List, [], ◌∷◌, Some, All, arith}
use Rattle.std.specs.List.{find}
use Rattle.std.proofs.lemmas.Option.{none-some, same_Some}
use Rattle.std.proofs.lemmas.Bool.{cases_Bool, cond-true, cond-false}

-- what is found is an element, and passes
pub find-all : {X : Type 0} (P : X → Type 0) (p : X → Bool) (xs : List X) (v : X) → All P xs
    → Some v ≡ find p xs → P v
find-all P p [] v all e = absurd (none-some v (sym e))
find-all P p (x ∷ xs) v all e =
    elim (cases_Bool (p x)) [
      | inl passes ↦ subst P (sym (same_Some v x (e ∙ cond-true (p x) (Some x) (find p xs) passes)))
          (all zero x (omega arith))
      | inr fails ↦ find-all P p xs v (λ k d lt. all (suc k) d (omega arith))
          (e ∙ cond-false (p x) (Some x) (find p xs) fails)
    ]

pub find-passes : {X : Type 0} (p : X → Bool) (xs : List X) (v : X) → Some v ≡ find p xs
    → p v ≡ true
find-passes p [] v e = absurd (none-some v (sym e))
find-passes p (x ∷ xs) v e =
    elim (cases_Bool (p x)) [
      | inl passes ↦ subst (λ y. p y ≡ true)
          (sym (same_Some v x (e ∙ cond-true (p x) (Some x) (find p xs) passes))) passes
      | inr fails ↦ find-passes p xs v (e ∙ cond-false (p x) (Some x) (find p xs) fails)
    ]
