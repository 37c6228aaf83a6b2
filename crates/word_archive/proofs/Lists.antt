-- Lists that are read by `slice_get`.
use Rattle.std.proofs.Common.{List, Some, [], ap, arith, get_or, length, map, refl, set, slice_get, suc, sym, take, zero, ℕ, ◌<◌, ◌∷◌, ◌≡◌, ◌≢◌}

module _ {A : Type 0} where
  -- what was written stands there
  pub get_set : (xs : List A) (i : ℕ) (x y : A) → slice_get xs i ≡ Some x
      → slice_get (set xs i y) i ≡ Some y
  get_set [] i x y e = absurd (cc)
  get_set (z ∷ zs) zero x y e = refl
  get_set (z ∷ zs) (suc i) x y e = get_set zs i x y e

  -- elsewhere all is as it was
  pub get_set_other : (xs : List A) (i j : ℕ) (y : A) → j ≢ i
      → slice_get (set xs i y) j ≡ slice_get xs j
  get_set_other [] i j y n = refl
  get_set_other (z ∷ zs) zero zero y n = absurd (n refl)
  get_set_other (z ∷ zs) zero (suc j) y n = refl
  get_set_other (z ∷ zs) (suc i) zero y n = refl
  get_set_other (z ∷ zs) (suc i) (suc j) y n = get_set_other zs i j y (λ e. n (ap suc e))

  -- what stands there, written again
  pub set_same : (xs : List A) (i : ℕ) (x : A) → slice_get xs i ≡ Some x → set xs i x ≡ xs
  set_same [] i x e = refl
  set_same (z ∷ zs) zero x e = let q : z ≡ x = cc in λ k. sym q k ∷ zs
  set_same (z ∷ zs) (suc i) x e = ap (λ l. z ∷ l) (set_same zs i x e)

  -- a map over a list with one element changed
  pub map_set : {B : Type 0} (f : A → B) (xs : List A) (i : ℕ) (y : A)
      → map f (set xs i y) ≡ set (map f xs) i (f y)
  map_set f [] i y = refl
  map_set f (z ∷ zs) zero y = refl
  map_set f (z ∷ zs) (suc i) y = ap (λ l. f z ∷ l) (map_set f zs i y)

  -- an element of a map
  pub get_map : {B : Type 0} (f : A → B) (xs : List A) (i : ℕ) (x : A) → slice_get xs i ≡ Some x
      → slice_get (map f xs) i ≡ Some (f x)
  get_map f [] i x e = absurd (cc)
  get_map f (z ∷ zs) zero x e = let q : z ≡ x = cc in ap (λ y. Some (f y)) q
  get_map f (z ∷ zs) (suc i) x e = get_map f zs i x e

-- a word, written where it stands
pub set_index : (xs : List ℕ) (i : ℕ) → set xs i (get_or xs i 0) ≡ xs
set_index [] i = refl
set_index (x ∷ xs) zero = refl
set_index (x ∷ xs) (suc i) = ap (λ l. x ∷ l) (set_index xs i)

-- a word among the first ones
pub index_take : (xs : List ℕ) (m i : ℕ) → i < m → get_or (take m xs) i 0 ≡ get_or xs i 0
index_take xs zero i lt = absurd (omega arith)
index_take [] (suc m) i lt = refl
index_take (x ∷ xs) (suc m) zero lt = refl
index_take (x ∷ xs) (suc m) (suc i) lt = index_take xs m i (omega arith)

-- a word that was written
pub index_set : (xs : List ℕ) (i v : ℕ) → i < length xs → get_or (set xs i v) i 0 ≡ v
index_set [] i v lt = absurd (omega arith)
index_set (x ∷ xs) zero v lt = refl
index_set (x ∷ xs) (suc i) v lt = index_set xs i v (omega arith)

-- the words elsewhere
pub index_set_other : (xs : List ℕ) (i j v : ℕ) → j ≢ i → get_or (set xs i v) j 0 ≡ get_or xs j 0
index_set_other [] i j v n = refl
index_set_other (x ∷ xs) zero zero v n = absurd (n refl)
index_set_other (x ∷ xs) zero (suc j) v n = refl
index_set_other (x ∷ xs) (suc i) zero v n = refl
index_set_other (x ∷ xs) (suc i) (suc j) v n = index_set_other xs i j v (λ e. n (ap suc e))

-- a place inside has its element
pub get_some : {A : Type 0} (xs : List A) (i : ℕ) (d : A) → i < length xs
    → slice_get xs i ≡ Some (get_or xs i d)
get_some [] i d lt = absurd (omega arith)
get_some (x ∷ xs) zero d lt = refl
get_some (x ∷ xs) (suc i) d lt = get_some xs i d (omega arith)
