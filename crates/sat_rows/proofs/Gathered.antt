-- Lists whose elements were made one by one, or by several threads.
use Rattle.std.proofs.Common.{◌≡◌, ℕ, zero, suc, ◌+◌, ◌<◌, List, [], ◌∷◌, ◌++◌, length, map, get_or, Result, Ok, IfOk, refl, sym, ap, subst, ◌∙◌, inl, inr, arith}
use Rattle.std.specs.List.{AllZip, range_with_len}
use Rattle.std.proofs.Math.Seq.{get_or-append_seam}
use Rattle.std.proofs.lemmas.Bool.{cases_lt}
use Rattle.std.proofs.lemmas.List.{get_or_append_left}

-- one more element at the end
pub each_next : {T : Type 0} (P : ℕ → T → Type 0) (xs : List T) (x d : T)
    → ((i : ℕ) → i < length xs → P i (get_or xs i d)) → P (length xs) x
    → (i : ℕ) → i < length xs + 1 → P i (get_or (xs ++ x ∷ []) i d)
each_next P xs x d before here i lt =
    elim (cases_lt i (length xs)) [
      | inl old ↦ subst (P i) (sym (get_or_append_left xs (x ∷ []) d i old)) (before i old)
      | inr ge ↦
          let last : length xs ≡ i = omega arith in
          subst (λ k. P k (get_or (xs ++ x ∷ []) k d)) last
          (subst (P (length xs)) (sym (get_or-append_seam xs x [] d)) here)
    ]

-- the results of calls at the places from a on, all of them Ok
gathered_from : (E : Type 0) {T : Type 0} (P : ℕ → T → Type 0) (a n : ℕ) (ys : List T) (d : T)
    → AllZip (λ (i : ℕ) (r : Result T E). IfOk r (P i)) (range_with_len a n) (map Ok ys)
    → (length ys ≡ n) × ((i : ℕ) → i < n → P (a + i) (get_or ys i d))
gathered_from E P a zero [] d all = (refl, λ i h. absurd (omega arith))
gathered_from E P a zero (y ∷ ys) d all = absurd all
gathered_from E P a (suc n) [] d all = absurd all
gathered_from E {T} P a (suc n) (y ∷ ys) d all =
    let rest = gathered_from E P (a + 1) n ys d all.1 in (ap suc rest.0, λ i h. at i h rest.1)
  where
    at : (i : ℕ) → i < suc n → ((i : ℕ) → i < n → P (a + 1 + i) (get_or ys i d))
        → P (a + i) (get_or (y ∷ ys) i d)
    at zero h rest = let e : a ≡ a + 0 = omega arith in subst (λ m. P m y) e all.0
    at (suc i) h rest =
        let e : a + 1 + i ≡ a + suc i = omega arith in
        subst (λ m. P m (get_or ys i d)) e (rest i (omega arith))

-- the results of calls at the places below n
pub gathered : (E : Type 0) {T : Type 0} (P : ℕ → T → Type 0) (n : ℕ) (xs : List (Result T E))
    (ys zs : List T) (d : T) (places : List ℕ) → xs ≡ map Ok ys → zs ≡ ys
    → places ≡ range_with_len 0 n → AllZip (λ (i : ℕ) (r : Result T E). IfOk r (P i)) places xs
    → (length zs ≡ n) × ((i : ℕ) → i < n → P i (get_or zs i d))
gathered E {T} P n xs ys zs d places e same at all =
    let Called : List ℕ → List (Result T E) → Type 0 =
    AllZip (λ (i : ℕ) (r : Result T E). IfOk r (P i)) in
    let every : Called (range_with_len 0 n) (map Ok ys) =
    subst (λ l. Called l (map Ok ys)) at (subst (Called places) e all) in
    let made = gathered_from E P 0 n ys d every in (
      ap length same ∙ made.0,
      λ i h.
          let e : 0 + i ≡ i = omega arith in
          subst (λ l. P i (get_or l i d)) (sym same)
          (subst (λ m. P m (get_or ys i d)) e (made.1 i h)),
    )
