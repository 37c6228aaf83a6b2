-- Numbers that rise along a list, from 0 on without a gap, are the places of the list.
use Rattle.std.proofs.Common.{◌≡◌, inl, inr, ℕ, zero, suc, ◌<◌, ◌≤◌, List, [], ◌∷◌, Some, slice_get, refl, sym, ap, ◌∙◌, arith}
use Rattle.std.proofs.lemmas.Bool.{cases_eq, cases_lt}
use Rattle.std.proofs.lemmas.Option.{same_Some}

-- what stands ahead of a place of a list is there
pub there_before : {X : Type 0} (xs : List X) (i k : ℕ) (x : X) → i ≤ k → slice_get xs k ≡ Some x
    → (y : X) × (slice_get xs i ≡ Some y)
there_before [] i k x le e = absurd (cc)
there_before (y ∷ ys) zero k x le e = (y, refl)
there_before (y ∷ ys) (suc i) zero x le e = absurd (omega arith)
there_before (y ∷ ys) (suc i) (suc k) x le e = there_before ys i k x (omega arith) e

module _ {X : Type 0} (number : X → ℕ) (xs : List X) (n : ℕ)
    (rises : (j k : ℕ) (g h : X) → j < k → slice_get xs j ≡ Some g → slice_get xs k ≡ Some h
    → number g < number h)
    (below : (k : ℕ) (h : X) → slice_get xs k ≡ Some h → number h < n)
    (there : (x : ℕ) → x < n → (k : ℕ) × (h : X) × (slice_get xs k ≡ Some h) × (number h ≡ x))
  where
    -- the element at place m, where those ahead of it have their places as numbers
    at_place : (m : ℕ)
        → ((k : ℕ) (g : X) → k < m → slice_get xs k ≡ Some g → number g ≡ k)
        → (h : X) → slice_get xs m ≡ Some h → number h ≡ m
    at_place m first h e =
        elim (cases_eq (number h) m) [
          | inl is ↦ is
          | inr other ↦ elim (cases_lt (number h) m) [
            | inl low ↦
                let g = there_before xs (number h) m h (omega arith) e in
                let a = first (number h) g.0 low g.1 in
                let r = rises (number h) m g.0 h low g.1 e in
                absurd (omega arith)
            | inr high ↦
                let t = there m (let b = below m h e in omega arith) in
                elim (cases_lt t.0 m) [
                  | inl less ↦ let a = first t.0 t.1 less t.2 in let b = t.3 in absurd (omega arith)
                  | inr more ↦ elim (cases_eq t.0 m) [
                    | inl same ↦
                        let s : h ≡ t.1 =
                        same_Some h t.1 (sym e ∙ ap (slice_get xs) (sym same) ∙ t.2) in
                        absurd (other (ap number s ∙ t.3))
                    | inr apart ↦
                        let r = rises m t.0 h t.1 (omega arith) e t.2 in
                        let b = t.3 in
                        absurd (omega arith)
                  ]
                ]
          ]
        ]

    ahead_of : (m k : ℕ) (g : X) → k < m → slice_get xs k ≡ Some g → number g ≡ k
    ahead_of zero k g less e = absurd (omega arith)
    ahead_of (suc m) k g less e =
        elim (cases_eq k m) [
          | inl is ↦ at_place m (λ j f. ahead_of m j f) g (ap (slice_get xs) (sym is) ∙ e) ∙ sym is
          | inr other ↦ ahead_of m k g (omega arith) e
        ]

    -- each element's number is its place
    pub number_is_place : (k : ℕ) (h : X) → slice_get xs k ≡ Some h → number h ≡ k
    number_is_place k h e = ahead_of (suc k) k h (omega arith) e
