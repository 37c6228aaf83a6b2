-- Laws of tests.
use Rattle.std.proofs.Common.{◌≡◌, ℕ, inl, inr, Bool, true, false, ◌||◌, ◌==◌, refl, sym, ◌∙◌}
use Rattle.std.proofs.lemmas.Bool.{cases_Bool, eqb-true, eqb-false, eq-eqb, ne_eqb}

-- a test of equality turned round
pub eqb-turned : (a b : ℕ) → (a == b) ≡ (b == a)
eqb-turned a b =
    elim (cases_Bool (b == a)) [
      | inl is ↦ eq-eqb a b (sym (eqb-true b a is)) ∙ sym is
      | inr other ↦ ne_eqb a b (λ e. eqb-false b a other (sym e)) ∙ sym other
    ]

-- four tests in another order
pub or-four : (a b c d : Bool) → ((a || b) || (c || d)) ≡ ((a || c) || (b || d))
or-four true b c d = refl
or-four false true true d = refl
or-four false true false d = refl
or-four false false c d = refl
