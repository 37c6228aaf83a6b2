-- Laws of the tests, sums and choices over the numbers below n.
use Rattle.std.proofs.Common.{◌≡◌, ℕ, zero, suc, ◌+◌, ◌*◌, ◌<◌, ◌≤◌, Bool, true, false, ◌||◌, cond, inl, inr, Some, refl, sym, ap, ◌∙◌, subst, arith, add-one}
use Rattle.std.proofs.lemmas.Option.{none-some, same_Some}
use Rattle.std.proofs.lemmas.Bool.{both_ways, cond-true, cond-false, false≢true, or_cases, or_left, or_right, and_parts, and_from, cases_eq, cases_Bool}
use Rattle.farm_model.specs.Below.{some_below, every_below, sum_below, greatest_below, highest_below}
use Rattle.farm_model.proofs.TestLaws.{or-four}

pub some_below-at : (n : ℕ) (p : ℕ → Bool) (k : ℕ) → k < n → p k ≡ true → some_below n p ≡ true
some_below-at zero p k h e = absurd (omega arith)
some_below-at (suc n) p k h e =
    elim (cases_eq k n) [
      | inl here ↦ or_left (p n) _ (subst (λ i. p i ≡ true) here e)
      | inr other ↦ or_right (p n) _ (some_below-at n p k (omega arith) e)
    ]

pub some_below-found : (n : ℕ) (p : ℕ → Bool) → some_below n p ≡ true
    → (k : ℕ) × (k < n) × (p k ≡ true)
some_below-found zero p e = absurd (false≢true e)
some_below-found (suc n) p e =
    elim (or_cases (p n) _ e) [
      | inl here ↦ (n, omega arith, here)
      | inr there ↦ let r = some_below-found n p there in (r.0, omega (arith, r.1), r.2)
    ]

pub some_below-mono : (n : ℕ) (p q : ℕ → Bool) → ((k : ℕ) → k < n → p k ≡ true → q k ≡ true)
    → some_below n p ≡ true → some_below n q ≡ true
some_below-mono n p q h e = let r = some_below-found n p e in
    some_below-at n q r.0 r.1 (h r.0 r.1 r.2)

pub some_below-same : (n : ℕ) (p q : ℕ → Bool) → ((k : ℕ) → k < n → p k ≡ q k)
    → some_below n p ≡ some_below n q
some_below-same zero p q h = refl
some_below-same (suc n) p q h = let now = h n (omega arith) in
    let rest = some_below-same n p q (λ k l. h k (omega arith)) in cc

pub some_below-none : (n : ℕ) (p : ℕ → Bool) → ((k : ℕ) → k < n → p k ≡ false)
    → some_below n p ≡ false
some_below-none zero p h = refl
some_below-none (suc n) p h =
    rw (h n (omega arith)) (some_below-none n p (λ k lt. h k (omega arith)))

-- for a loop that counts up
pub some_below-more : (n : ℕ) (p : ℕ → Bool) → some_below n p ≡ false → p n ≡ false
    → some_below (n + 1) p ≡ false
some_below-more n p h e = rw (add-one, e) h

pub some_below-all : (n k : ℕ) (p : ℕ → Bool) → some_below n p ≡ false → n ≡ k
    → false ≡ some_below k p
some_below-all n k p h e = sym h ∙ ap (λ m. some_below m p) e

pub every_below-at : (n : ℕ) (p : ℕ → Bool) (k : ℕ) → k < n → every_below n p ≡ true → p k ≡ true
every_below-at zero p k h e = absurd (omega arith)
every_below-at (suc n) p k h e =
    let parts = and_parts (p n) (every_below n p) e in
    elim (cases_eq k n) [
      | inl here ↦ subst (λ i. p i ≡ true) (sym here) parts.0
      | inr other ↦ every_below-at n p k (omega arith) parts.1
    ]

pub every_below-all : (n : ℕ) (p : ℕ → Bool) → ((k : ℕ) → k < n → p k ≡ true)
    → every_below n p ≡ true
every_below-all zero p h = refl
every_below-all (suc n) p h = and_from _ _ (h n (omega arith))
    (every_below-all n p (λ k lt. h k (omega arith)))

-- where not each number passes, some number does not
pub every_below-fails : (n : ℕ) (p : ℕ → Bool) → every_below n p ≡ false
    → (k : ℕ) × (k < n) × (p k ≡ false)
every_below-fails zero p e = absurd (false≢true (sym e))
every_below-fails (suc n) p e =
    elim (cases_Bool (p n)) [
      | inl here ↦ let r = every_below-fails n p (rw here at e) in (r.0, omega (arith, r.1), r.2)
      | inr fails ↦ (n, omega arith, fails)
    ]

pub sum_below-mono : (n : ℕ) (f g : ℕ → ℕ) → ((k : ℕ) → k < n → f k ≤ g k)
    → sum_below n f ≤ sum_below n g
sum_below-mono zero f g h = omega arith
sum_below-mono (suc n) f g h =
    omega (arith, h n (omega arith), sum_below-mono n f g (λ k l. h k (omega arith)))

pub sum_below-same : (n : ℕ) (f g : ℕ → ℕ) → ((k : ℕ) → k < n → f k ≡ g k)
    → sum_below n f ≡ sum_below n g
sum_below-same zero f g h = refl
sum_below-same (suc n) f g h =
    omega (arith, h n (omega arith), sum_below-same n f g (λ k l. h k (omega arith)))

-- two sums that differ at one place
pub sum_below-change : (n l : ℕ) (f g : ℕ → ℕ) → l < n → ((k : ℕ) → k < n → (k ≡ l → ⊥) → f k ≡ g k)
    → sum_below n f + g l ≡ sum_below n g + f l
sum_below-change zero l f g h same = absurd (omega arith)
sum_below-change (suc n) l f g h same =
    elim (cases_eq l n) [
      | inl here ↦ let rest : sum_below n f ≡ sum_below n g =
          sum_below-same n f g (λ k b. same k (omega arith) (λ e. omega arith)) in
          let a : f l ≡ f n = ap f here in
          let b : g l ≡ g n = ap g here in
          omega arith
      | inr other ↦ let ih = sum_below-change n l f g (omega arith)
          (λ k b ne. same k (omega arith) ne) in
          let e = same n (omega arith) (λ (q : n ≡ l). other (sym q)) in
          omega (arith, ih, e)
    ]

pub greatest_below-at : (n : ℕ) (p : ℕ → Bool) (f : ℕ → ℕ) (k : ℕ) → k < n → p k ≡ true
    → f k ≤ greatest_below n p f
greatest_below-at zero p f k h e = absurd (omega arith)
greatest_below-at (suc n) p f k h e =
    elim (cases_eq k n) [
      | inl here ↦ let passes : p n ≡ true = subst (λ i. p i ≡ true) here e in
          let first : cond (p n) (f n) 0 ≡ f n = rw passes refl in
          let a : f k ≡ f n = ap f here in
          omega arith
      | inr other ↦ let ih = greatest_below-at n p f k (omega arith) e in omega (arith, ih)
    ]

-- the highest number below n that passes
pub record IsHighest (n : ℕ) (p : ℕ → Bool) (b : ℕ) : Type 0 where
  pub below : b < n
  pub passes : p b ≡ true
  pub highest : (k : ℕ) → k < n → p k ≡ true → k ≤ b

pub highest_below-some : (n : ℕ) (p : ℕ → Bool) (b : ℕ) → highest_below n p ≡ Some b
    → IsHighest n p b
highest_below-some zero p b e = absurd (none-some b e)
highest_below-some (suc n) p b e =
    elim (cases_Bool (p n)) [
      | inl here ↦ let c : Some n ≡ Some b = sym (cond-true (p n) (Some n) (highest_below n p) here)
          ∙ e in
          let same : n ≡ b = same_Some n b c in
          record {
            below = omega arith;
            passes = subst (λ i. p i ≡ true) same here;
            highest =
                λ k h q. omega arith;
          }
      | inr fails ↦ let r = highest_below-some n p b
          (sym (cond-false (p n) (Some n) (highest_below n p) fails) ∙ e) in
          record {
            below = omega (arith, r.below);
            passes = r.passes;
            highest = λ k h q. elim (cases_eq k n) [
              | inl same ↦ absurd (both_ways (p n) fails (subst (λ i. p i ≡ true) same q))
              | inr other ↦ r.highest k (omega arith) q
            ];
          }
    ]

-- where some number passes there is a highest one
pub highest_below-there : (n : ℕ) (p : ℕ → Bool) (k : ℕ) → k < n → p k ≡ true
    → (b : ℕ) × (highest_below n p ≡ Some b)
highest_below-there zero p k h e = absurd (omega arith)
highest_below-there (suc n) p k h e =
    elim (cases_Bool (p n)) [
      | inl here ↦ (n, cond-true (p n) (Some n) (highest_below n p) here)
      | inr fails ↦ elim (cases_eq k n) [
        | inl same ↦ absurd (both_ways (p n) fails (subst (λ i. p i ≡ true) same e))
        | inr other ↦ let r = highest_below-there n p k (omega arith) e in
            (r.0, cond-false (p n) (Some n) (highest_below n p) fails ∙ r.1)
      ]
    ]

-- a sum of numbers of which none is over the most
pub sum_below-few : (most n : ℕ) (f : ℕ → ℕ) → ((k : ℕ) → f k ≤ most) → sum_below n f ≤ n * most
sum_below-few most zero f few = omega arith
sum_below-few most (suc n) f few =
    let rest = sum_below-few most n f few in let here = few n in omega (arith, rest, here)

-- some number passes one of two tests
pub some_below-or : (n : ℕ) (p q : ℕ → Bool)
    → some_below n (λ k. p k || q k) ≡ (some_below n p || some_below n q)
some_below-or zero p q = refl
some_below-or (suc n) p q =
    ap (λ rest. (p n || q n) || rest) (some_below-or n p q)
    ∙ or-four (p n) (q n) (some_below n p) (some_below n q)
