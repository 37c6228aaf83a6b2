-- Serials in the lists of those who drew them.
use Rattle.std.proofs.Common.{All, List, Some, [], ap, arith, cond, eqb, inl, inr, length, refl, slice_get, subst, suc, take, true, zero, ℕ, ⊎_elim, ◌++◌, ◌+◌, ◌<◌, ◌∷◌, ◌≡◌, ◌≤◌, ◌⊎◌}
use Rattle.std.proofs.lemmas.Bool.{eq-eqb, false≢true, or_cases}
use Rattle.std.proofs.lemmas.Bool.Decides.{nat_tests}
use Rattle.std.proofs.lemmas.Option.{get_or_from_slice_get, slice_get_within}
use Rattle.std.specs.Prelude.{slice_index_or}
use Rattle.farm_model.specs.Packages.{contains, same}
use Rattle.farm_model.specs.declared.types.Variant.{Variant}
use Rattle.farm_laws.proofs.Archive.{same-true}
use Rattle.archive_laws.specs.Records.{Record}
use Rattle.word_archive.specs.Serials.{drawn, once_below, times}

-- how often x stands in a list with one serial more
pub times_append : (x : ℕ) (xs : List ℕ) (y : ℕ)
    → times x (xs ++ y ∷ []) ≡ times x xs + cond (eqb y x) 1 0
times_append x [] y = omega arith
times_append x (z ∷ zs) y = let t = times_append x zs y in omega arith

-- the numbers below n and n itself
pub once_next : (x n : ℕ) → once_below x (n + 1) ≡ once_below x n + cond (eqb n x) 1 0
once_next x n = grind (arith, nat_tests)

-- a lane drew x at most as often as all lanes
pub times_drawn : (x : ℕ) (rs : List Record) (l : ℕ) (r : Record) → slice_get rs l ≡ Some r
    → times x r.serials ≤ drawn x rs
times_drawn x [] l r e = absurd (cc)
times_drawn x (q ∷ rs) zero r e =
    let s : q ≡ r = cc in
    let t = ap (λ (y : Record). times x y.serials) s in
    omega arith
times_drawn x (q ∷ rs) (suc l) r e = let t = times_drawn x rs l r e in omega arith

-- what counts below n is below n
less_from_once : (x n k : ℕ) → 1 + k ≤ once_below x n → x < n
less_from_once x n k le = grind (arith, nat_tests)

-- the first of a list stands in it
times_first : (x : ℕ) (xs : List ℕ) → times x (x ∷ xs) ≡ 1 + times x xs
times_first x xs = ap (λ b. cond b 1 0 + times x xs) (eq-eqb x x refl)

-- a list of numbers that stand nowhere else has only numbers below n
pub all_less : (n : ℕ) (xs : List ℕ) → ((x : ℕ) → times x xs ≤ once_below x n)
    → All (λ x. x < n) xs
all_less n xs h k d lt = at xs k d lt h
  where
    at : (xs : List ℕ) (k d : ℕ) → k < length xs → ((x : ℕ) → times x xs ≤ once_below x n)
        → slice_index_or xs k d < n
    at [] k d lt h = absurd (omega arith)
    at (x ∷ xs) zero d lt h =
        less_from_once x n (times x xs) (omega (arith, h x, times_first x xs))
    at (x ∷ xs) (suc k) d lt h = at xs k d (omega arith) (λ y. omega (arith, h y))

-- a serial of such a list is below n
pub less_at : (n : ℕ) (xs : List ℕ) (i y : ℕ) → All (λ x. x < n) xs → slice_get xs i ≡ Some y
    → y < n
less_at n xs i y h e =
    subst (λ x. x < n) (get_or_from_slice_get xs i y 0 e) (h i 0 (slice_get_within xs i y e))

-- the serials before stay where they are
pub front_at : (xs : List ℕ) (z i y : ℕ) → slice_get xs i ≡ Some y
    → slice_get (xs ++ z ∷ []) i ≡ Some y
front_at [] z i y e = absurd (cc)
front_at (x ∷ xs) z zero y e = e
front_at (x ∷ xs) z (suc i) y e = front_at xs z i y e

-- a serial of the longer list is one of those before, or the last
pub last_at : (xs : List ℕ) (z j x : ℕ) → slice_get (xs ++ z ∷ []) j ≡ Some x
    → (slice_get xs j ≡ Some x) ⊎ ((j ≡ length xs) × (z ≡ x))
last_at [] z zero x e = inr (refl, cc)
last_at [] z (suc j) x e = absurd (cc)
last_at (y ∷ ys) z zero x e = inl e
last_at (y ∷ ys) z (suc j) x e =
    ⊎_elim (λ t. inl t) (λ (t : (j ≡ length ys) × (z ≡ x)). inr (ap suc t.0, t.1))
    (last_at ys z j x e)

-- a variant that is among the first n of a list, with its place
pub found_at : (xs : List Variant) (n : ℕ) (v : Variant) → contains (take n xs) v ≡ true
    → (i : ℕ) × (i < n) × (slice_get xs i ≡ Some v)
found_at [] zero v e = absurd (false≢true e)
found_at [] (suc n) v e = absurd (false≢true e)
found_at (x ∷ xs) zero v e = absurd (false≢true e)
found_at (x ∷ xs) (suc n) v e =
    elim (or_cases (same x v) _ e) [
      | inl here ↦ (0, omega arith, ap Some (same-true x v here))
      | inr later ↦ let r = found_at xs n v later in
          let lt = r.1 in (suc r.0, omega arith, r.2)
    ]
