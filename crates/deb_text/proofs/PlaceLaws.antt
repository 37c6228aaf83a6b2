-- The place of a key, and the place of an item in order.
use Prim.Native.Nat.compare
use Rattle.std.proofs.Common.{◌≡◌, ℕ, ◌+◌, Bool, true, false, not, suc, cond, ◌||◌, List, [], ◌∷◌, length, refl, sym, ap, ◌∙◌, one-add, if◌then◌else◌, Some, None, arith, unwrap_or, position, insert, nat_lt}
use Rattle.std.proofs.lemmas.Bool.{lt-ltb, or_parts}
use Rattle.std.specs.List.{list_any, position_or_len}
use Rattle.deb_text.specs.Groups.{in_order, place_in}

lt-suc : (a b : ℕ) → nat_lt (1 + a) (suc b) ≡ nat_lt a b
lt-suc a b = rw (one-add a, compare.suc-suc) refl

module _ {X : Type 0} (p : X → Bool) where
  lt-any : (xs : List X) → nat_lt (position_or_len p xs) (length xs) ≡ list_any p xs
  lt-any [] = refl
  lt-any (x ∷ xs) = by (p x) (lt-any xs) where
    by : (b : Bool) → nat_lt (position_or_len p xs) (length xs) ≡ list_any p xs
        → nat_lt (cond (not b) (1 + position_or_len p xs) 0) (suc (length xs))
        ≡ (b || list_any p xs)
    by true later = lt-ltb 0 (suc (length xs)) (omega arith)
    by false later = lt-suc (position_or_len p xs) (length xs) ∙ later

  pub position-any : (xs : List X)
      → position p xs ≡ (if list_any p xs then Some (position_or_len p xs) else None)
  position-any xs = rw (lt-any xs) refl

  position_or_len-none : (xs : List X) → list_any p xs ≡ false → position_or_len p xs ≡ length xs
  position_or_len-none [] e = refl
  position_or_len-none (x ∷ xs) e =
      let parts = or_parts (p x) (list_any p xs) e in
      rw (parts.0, one-add) (ap suc (position_or_len-none xs parts.1))

  pub unwrap_or-position : (xs : List X)
      → unwrap_or (position p xs) (length xs) ≡ position_or_len p xs
  unwrap_or-position xs = rw (position-any xs) (by (list_any p xs) refl) where
    by : (b : Bool) → list_any p xs ≡ b
        → unwrap_or (if b then Some (position_or_len p xs) else None) (length xs)
        ≡ position_or_len p xs
    by true e = refl
    by false e = sym (position_or_len-none xs e)

pub place_in-position : {K : Type 0} (eq : K → K → Bool) (ks : List K) (k : K)
    → place_in eq ks k ≡ position (eq k) ks
place_in-position eq ks k = sym (position-any (eq k) ks)

pub in_order-insert : {V : Type 0} (below : V → V → Bool) (x : V) (vs : List V)
    → in_order below x vs ≡ insert vs (position_or_len (below x) vs) x
in_order-insert below x [] = refl
in_order-insert below x (v ∷ vs) = by (below x v) refl (in_order-insert below x vs) where
  by : (b : Bool) → below x v ≡ b → in_order below x vs ≡ insert vs (position_or_len (below x) vs) x
      → in_order below x (v ∷ vs) ≡ insert (v ∷ vs) (position_or_len (below x) (v ∷ vs)) x
  by true e later = rw e refl
  by false e later = rw (e, one-add) (ap (λ ys. v ∷ ys) later)
