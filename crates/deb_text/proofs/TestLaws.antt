-- Lists whose elements all pass a test.
use Rattle.std.proofs.Common.{◌≡◌, ℕ, Bool, true, false, ◌==◌, List, [], ◌∷◌, refl, sym, subst, ◌∙◌, inl, inr, true≢false}
use Rattle.std.proofs.lemmas.Bool.{cases_Bool, and_parts, and_from, or_from, ne_eqb}
use Rattle.std.specs.List.{list_all, list_any}
use Rattle.deb_text.specs.Bytes.{is_byte}
use Rattle.deb_text.specs.Cuts.{is_last, before, after, before_last, after_last}

module _ {X : Type 0} (p q : X → Bool) (weaker : (x : X) → p x ≡ true → q x ≡ true) where
  -- they pass a weaker one
  pub all-weaker : (xs : List X) → list_all p xs ≡ true → list_all q xs ≡ true
  all-weaker [] are = refl
  all-weaker (x ∷ xs) are =
      let both = and_parts (p x) (list_all p xs) are in
      and_from (q x) (list_all q xs) (weaker x both.0) (all-weaker xs both.1)

-- a byte that does not pass is none of them
pub other-byte : (p : ℕ → Bool) (n : ℕ) → p n ≡ false → (b : ℕ) → p b ≡ true → (b == n) ≡ false
other-byte p n fails b passes =
    ne_eqb b n (λ e. true≢false (sym (subst (λ m. p m ≡ true) e passes) ∙ fails))

pub none-other : (p : ℕ → Bool) (n : ℕ) → p n ≡ false → (bs : List ℕ) → list_all p bs ≡ true
    → list_any (is_byte n) bs ≡ false
none-other p n fails [] are = refl
none-other p n fails (b ∷ bs) are =
    let both = and_parts (p b) (list_all p bs) are in
    or_from (b == n) (list_any (is_byte n) bs) (other-byte p n fails b both.0)
    (none-other p n fails bs both.1)

-- where separators pass, and both sides of one do, the whole does
module _ {X : Type 0} (cut p : X → Bool) (passes : (x : X) → cut x ≡ true → p x ≡ true) where
  pub all-cut : (xs : List X) → list_all p (before cut xs) ≡ true → list_all p (after cut xs) ≡ true
      → list_all p xs ≡ true
  all-cut [] first rest = refl
  all-cut (x ∷ xs) first rest =
      elim (cases_Bool (cut x)) [
        | inl is ↦ and_from (p x) (list_all p xs) (passes x is) (rw is at rest)
        | inr is ↦ (
            let both = and_parts (p x) (list_all p (before cut xs)) (rw is at first) in
            and_from (p x) (list_all p xs) both.0 (all-cut xs both.1 (rw is at rest))
            )
      ]

  pub all-cut_last : (xs : List X) → list_all p (before_last cut xs) ≡ true
      → list_all p (after_last cut xs) ≡ true → list_all p xs ≡ true
  all-cut_last [] first rest = refl
  all-cut_last (x ∷ xs) first rest =
      elim (cases_Bool (is_last cut x xs)) [
        | inl is ↦ and_from (p x) (list_all p xs)
            (passes x (and_parts (cut x) _ is).0) (rw is at rest)
        | inr is ↦ (
            let both = and_parts (p x) (list_all p (before_last cut xs)) (rw is at first) in
            and_from (p x) (list_all p xs) both.0 (all-cut_last xs both.1 (rw is at rest))
            )
      ]
