-- Lists with one element more, or another.
use Rattle.std.proofs.Common.{◌≡◌, ℕ, zero, suc, ◌<◌, List, [], ◌∷◌, ◌++◌, length, Some, slice_get, slice_set, refl, sym, ap, subst, arith}
use Rattle.std.specs.Prelude.{All}
use Rattle.std.proofs.lemmas.Option.{none-some, same_Some, slice_get_within, get_or_from_slice_get}
use Rattle.farm_model.specs.Universe.{Universe}
use Rattle.plan_model.specs.Common.{Plan, State, Moved, step, Run}
use Rattle.timed_run.specs.Timed.{IsNoLater}

-- a run of one step more
pub run-more : (u : Universe) (p : Plan) (ls : List ℕ) (s m t : State) (l : ℕ) → Run u p s ls m
    → step u p m l ≡ Moved t → Run u p s (ls ++ l ∷ []) t
run-more u p [] s m t l r e =
    (t, subst (λ x. step u p x l ≡ Moved t) (sym r) e, refl)
run-more u p (k ∷ ls) s m t l r e = (r.0, r.1, run-more u p ls r.0 m t l r.2 e)

-- a run behind a run
pub run-then : (u : Universe) (p : Plan) (ls ks : List ℕ) (s m t : State) → Run u p s ls m
    → Run u p m ks t → Run u p s (ls ++ ks) t
run-then u p [] ks s m t r q = subst (λ x. Run u p x ks t) (sym r) q
run-then u p (l ∷ ls) ks s m t r q = (r.0, r.1, run-then u p ls ks r.0 m t r.2 q)

-- one lane comes no later than another, and that than a third
pub no-later : (a l b k c i : ℕ) → IsNoLater a l b k → IsNoLater b k c i → IsNoLater a l c i
no-later a l b k c i first second = (
  omega (arith, first.0, second.0),
  λ same.
      let near = first.1 (omega (arith, first.0, second.0, same)) in
      let far = second.1 (omega (arith, first.0, second.0, same)) in omega (arith, near, far),
)

module _ {X : Type 0} where
  -- what holds of all holds of each
  pub all_at : (P : X → Type 0) (xs : List X) → All P xs → (k : ℕ) (x : X)
      → slice_get xs k ≡ Some x → P x
  all_at P xs all k x e =
      subst P (get_or_from_slice_get xs k x x e) (all k x (slice_get_within xs k x e))

  -- an element of a list with one more is one of the list, or the last
  pub data At (xs : List X) (x : X) (k : ℕ) (y : X) : Type 0 where
    Before : k < length xs → slice_get xs k ≡ Some y → At xs x k y
    Last : k ≡ length xs → x ≡ y → At xs x k y

  more_at : (xs : List X) (x : X) (k : ℕ) (y : X) → At xs x k y → (z : X)
      → At (z ∷ xs) x (suc k) y
  more_at xs x k y (Before lt e) z = Before (omega (arith, lt)) e
  more_at xs x k y (Last here e) z = Last (ap suc here) e

  pub at_more : (xs : List X) (x : X) (k : ℕ) (y : X) → slice_get (xs ++ x ∷ []) k ≡ Some y
      → At xs x k y
  at_more [] x zero y e = Last refl (same_Some x y e)
  at_more [] x (suc k) y e = absurd (none-some y e)
  at_more (z ∷ zs) x zero y e = Before (omega arith) e
  at_more (z ∷ zs) x (suc k) y e = more_at zs x k y (at_more zs x k y e) z

  -- an element of a list of which one was set is the new one, or one of the list
  pub data AtSet (xs : List X) (i : ℕ) (x : X) (k : ℕ) (y : X) : Type 0 where
    Same : k ≡ i → x ≡ y → AtSet xs i x k y
    Other : (k ≡ i → ⊥) → slice_get xs k ≡ Some y → AtSet xs i x k y

  set_later : (xs : List X) (i : ℕ) (x : X) (k : ℕ) (y z : X) → AtSet xs i x k y
      → AtSet (z ∷ xs) (suc i) x (suc k) y
  set_later xs i x k y z (Same here e) = Same (ap suc here) e
  set_later xs i x k y z (Other other e) = Other (λ h. other (omega (arith, h))) e

  pub at_set : (xs : List X) (i : ℕ) (x : X) (k : ℕ) (y : X)
      → slice_get (slice_set xs i x) k ≡ Some y → AtSet xs i x k y
  at_set [] i x k y e = absurd (none-some y e)
  at_set (z ∷ zs) zero x zero y e = Same refl (same_Some x y e)
  at_set (z ∷ zs) zero x (suc k) y e = Other (λ h. absurd (omega (arith, h))) e
  at_set (z ∷ zs) (suc i) x zero y e = Other (λ h. absurd (omega (arith, h))) e
  at_set (z ∷ zs) (suc i) x (suc k) y e = set_later zs i x k y z (at_set zs i x k y e)
