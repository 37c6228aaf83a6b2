-- What may be held, as lists: by the words of it, and that it is of the universe.
use Rattle.std.proofs.Common.{◌≡◌, ◌⊎◌, inl, inr, ℕ, Bool, true, false, ◌==◌, List, [], ◌∷◌, ◌++◌, refl, sym, ap, ◌∙◌, subst, All}
use Rattle.std.proofs.lemmas.Bool.{cases_Bool, eqb-true}
use Rattle.std.proofs.lemmas.List.Elements.{All-nil, All-cons, All-append}
use Rattle.clause_kernel.specs.Rows.{word_has}
use Rattle.clause_kernel.proofs.Words.{word_has_zero}
use Rattle.farm_model.specs.Common.{IsKnown, Universe}
use Rattle.farm_model.specs.declared.types.Variant.{Variant}
use Rattle.may_rows.specs.Words.{slot_of}
use Rattle.explain_reasons.specs.Listed.{held, one_if}

-- the variants of a slot, by its word
pub held_is : (here ready last : ℕ) → held (slot_of here ready last) ≡ word_has here
held_is here ready last = by (cases_Bool (here == 0)) (cases_Bool (ready == 0))
  where
    none : (b : ℕ) → here ≡ 0 → false ≡ word_has here b
    none b empty = sym (ap (λ k. word_has k b) empty ∙ word_has_zero b)

    by : ((here == 0) ≡ true) ⊎ ((here == 0) ≡ false)
        → ((ready == 0) ≡ true) ⊎ ((ready == 0) ≡ false)
        → held (slot_of here ready last) ≡ word_has here
    by (inl z) r = rw z (λ i. λ b. none b (eqb-true here 0 z) i)
    by (inr h) (inl z) = rw (h, z) refl
    by (inr h) (inr r) = rw (h, r) refl

-- they are of the universe
module _ (u : Universe) (vs : List Variant) where
  pub none_known : vs ≡ [] → All (IsKnown u) vs
  none_known is = subst (All (IsKnown u)) (sym is) (All-nil (IsKnown u))

  pub one_known : (t : Bool) (v : Variant) → All (IsKnown u) vs → IsKnown u v
      → All (IsKnown u) (vs ++ one_if t v)
  one_known true v known is =
      All-append (IsKnown u) vs (v ∷ []) known
      (All-cons (IsKnown u) v [] is (All-nil (IsKnown u)))
  one_known false v known is = All-append (IsKnown u) vs [] known (All-nil (IsKnown u))
