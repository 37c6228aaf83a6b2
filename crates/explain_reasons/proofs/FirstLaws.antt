-- Laws of first answers, of lists of all, and of a lane's first hazard.
use Rattle.std.proofs.Common.{◌≡◌, ℕ, zero, suc, ◌+◌, ◌<◌, List, ◌++◌, append_assoc, add-one, length, Option, Some, None, option_map, inl, inr, refl, sym, ap, subst, ◌∙◌, arith}
use Rattle.std.proofs.lemmas.Bool.{cases_eq, cases_lt}
use Rattle.std.proofs.lemmas.Option.{none-some, slice_get_past}
use Rattle.farm_model.specs.Universe.{Universe}
use Rattle.plan_model.specs.Common.{Rows, Plan, lane, Hazard, hazard_at}
use Rattle.plan_verifier.proofs.Steps.{hazard-past}
use Rattle.explain_reasons.specs.Listed.{all_below, first_below}
use Rattle.explain_reasons.specs.Removals.{told, place_hazard, lane_hazard}

module _ {A : Type 0} where
  -- the first number that has one
  pub first_below-at : (n k : ℕ) (f : ℕ → Option A) (x : A) → k < n → first_below k f ≡ None
      → f k ≡ Some x → first_below n f ≡ Some x
  first_below-at zero k f x lt none here = absurd (omega arith)
  first_below-at (suc n) k f x lt none here =
      elim (cases_eq k n) [
        | inl same ↦
            rw (subst (λ j. first_below j f ≡ None) same none) (subst (λ j. f j ≡ Some x) same here)
        | inr other ↦ rw (first_below-at n k f x (omega arith) none here)
      ]

  -- none has one
  pub none_below : (n : ℕ) (f : ℕ → Option A) → ((k : ℕ) → k < n → f k ≡ None)
      → first_below n f ≡ None
  none_below zero f none = refl
  none_below (suc n) f none =
      rw (none_below n f (λ k lt. none k (omega arith))) (none n (omega arith))

  -- nor has one more
  pub none_more : (n : ℕ) (f : ℕ → Option A) → first_below n f ≡ None → f n ≡ None
      → first_below (n + 1) f ≡ None
  none_more n f before here = rw (add-one, before) here

  -- the list of one more, behind others
  pub all_more : (n : ℕ) (f : ℕ → List A) (start before after : List A)
      → before ≡ start ++ all_below n f → after ≡ before ++ f n
      → after ≡ start ++ all_below (n + 1) f
  all_more n f start before after so_far next =
      next ∙ ap (λ xs. xs ++ f n) so_far ∙ append_assoc start (all_below n f) (f n)
      ∙ ap (λ k. start ++ all_below k f) (sym (add-one n))

-- ---- a lane's first hazard, by what a walk over it came to

module _ (u : Universe) (p : Plan) (rows : Rows) (l : ℕ) where
  -- a hazard is ahead of the lane's end
  pub within : (i : ℕ) (hazard : Hazard) → hazard_at u p rows l i ≡ Some hazard
      → i < length (lane p l).instructions
  within i hazard here =
      elim (cases_lt i (length (lane p l).instructions)) [
        | inl lt ↦ lt
        | inr past ↦ absurd (none-some hazard (sym (hazard-past u p rows l i
            (slice_get_past (lane p l).instructions i (omega arith))) ∙ here))
      ]

  -- none is told of the places that are safe
  none_told : (n : ℕ) → ((k : ℕ) → k < n → hazard_at u p rows l k ≡ None) → (k : ℕ) → k < n
      → place_hazard u p rows l k ≡ None
  none_told n safe k lt = ap (option_map (told p l k)) (safe k lt)

  pub safe-lane : ((i : ℕ) → hazard_at u p rows l i ≡ None) → lane_hazard u p rows l ≡ None
  safe-lane safe =
      let n = length (lane p l).instructions in
      none_below n (place_hazard u p rows l) (none_told n (λ k lt. safe k))

  -- what is safe up to it makes it the first
  pub first_is : (i : ℕ) (hazard : Hazard) → hazard_at u p rows l i ≡ Some hazard
      → ((k : ℕ) → k < i → hazard_at u p rows l k ≡ None)
      → lane_hazard u p rows l ≡ Some (told p l i hazard)
  first_is i hazard here before =
      first_below-at (length (lane p l).instructions) i (place_hazard u p rows l)
      (told p l i hazard) (within i hazard here)
      (none_below i (place_hazard u p rows l) (none_told i before))
      (ap (option_map (told p l i)) here)
