-- What memchr and memrchr answer, by the cut of the list.
use Rattle.std.proofs.Common.{◌≡◌, ℕ, zero, suc, ◌+◌, ◌-◌, ◌<◌, Bool, true, false, List, [], ◌∷◌, length, get_or, take, drop, Some, None, refl, ap, arith, add-one, length-drop}
use Rattle.std.proofs.lemmas.Bool.{false_from_ne_true, or_from, and_right}
use Rattle.std.proofs.lemmas.List.{take_all}
use Rattle.std.specs.List.{list_any}
use Rattle.std.proofs.lemmas.List.Folds.{list_any_at}
use Rattle.memchr.specs.Find.{IsFirstByte, IsLastByte}
use Rattle.deb_text.specs.Cuts.{before, after, is_last, before_last, after_last}

-- what the range s[n..] is
pub from-drop : (s : List ℕ) (n : ℕ) → take (length s - n) (drop n s) ≡ drop n s
from-drop s n = take_all (length s - n) (drop n s) (omega (arith, length-drop n s))

module _ (p : ℕ → Bool) where
  -- no byte passes at any place
  none_any : (bytes : List ℕ) → ((i : ℕ) → i < length bytes → p (get_or bytes i 0) ≡ false)
      → list_any p bytes ≡ false
  none_any [] none = refl
  none_any (b ∷ bs) none =
      or_from (p b) (list_any p bs) (none 0 (omega arith))
      (none_any bs (λ i lt. none (suc i) (omega arith)))

  cut_at : (bytes : List ℕ) (k : ℕ) → k < length bytes
      → ((i : ℕ) → i < k → p (get_or bytes i 0) ≡ false) → p (get_or bytes k 0) ≡ true
      → (take k bytes ≡ before p bytes) × (drop (suc k) bytes ≡ after p bytes)
  cut_at [] k lt none is = absurd (omega arith)
  cut_at (b ∷ bs) zero lt none is = rw is (refl, refl)
  cut_at (b ∷ bs) (suc k) lt none is =
      let first : p b ≡ false = none 0 (omega arith) in
      let rest = cut_at bs k (omega arith) (λ i below. none (suc i) (omega arith)) is in
      rw first (ap (λ (x : List ℕ). b ∷ x) rest.0, rest.1)

  uncut : (bytes : List ℕ) → ((i : ℕ) → i < length bytes → p (get_or bytes i 0) ≡ false)
      → (bytes ≡ before p bytes) × ([] ≡ after p bytes)
  uncut [] none = (refl, refl)
  uncut (b ∷ bs) none =
      let first : p b ≡ false = none 0 (omega arith) in
      let rest = uncut bs (λ i below. none (suc i) (omega arith)) in
      rw first (ap (λ (x : List ℕ). b ∷ x) rest.0, rest.1)

  pub found_at : (bytes : List ℕ) (k : ℕ) → IsFirstByte p bytes (Some k)
      → (take k bytes ≡ before p bytes) × (drop (k + 1) bytes ≡ after p bytes)
  found_at bytes k h =
      rw add-one
      (cut_at bytes k h.0.high (λ i lt. false_from_ne_true _ (h.0.before i (omega arith) lt)) h.1)

  pub found_none : (bytes : List ℕ) → IsFirstByte p bytes None
      → (bytes ≡ before p bytes) × ([] ≡ after p bytes)
  found_none bytes h = uncut bytes (λ i lt. false_from_ne_true _ (h i (omega arith) lt))

  pub first-any : (bytes : List ℕ) (k : ℕ) → IsFirstByte p bytes (Some k) → list_any p bytes ≡ true
  first-any bytes k h = list_any_at p bytes k 0 h.0.high h.1

  pub first-before : (bytes : List ℕ) (k : ℕ) → IsFirstByte p bytes (Some k)
      → take k bytes ≡ before p bytes
  first-before bytes k h = (found_at bytes k h).0

  pub first-after : (bytes : List ℕ) (k : ℕ) → IsFirstByte p bytes (Some k)
      → take (length bytes - (k + 1)) (drop (k + 1) bytes) ≡ after p bytes
  first-after bytes k h = rw from-drop (found_at bytes k h).1

  pub first-none : (bytes : List ℕ) → IsFirstByte p bytes None → list_any p bytes ≡ false
  first-none bytes h = none_any bytes (λ i lt. false_from_ne_true _ (h i (omega arith) lt))

  cut_last : (bytes : List ℕ) (k : ℕ) → k < length bytes → p (get_or bytes k 0) ≡ true
      → ((i : ℕ) → k < i → i < length bytes → p (get_or bytes i 0) ≡ false)
      → (take k bytes ≡ before_last p bytes) × (drop (suc k) bytes ≡ after_last p bytes)
  cut_last [] k lt is none = absurd (omega arith)
  cut_last (b ∷ bs) zero lt is none =
      rw (is, none_any bs (λ i below. none (suc i) (omega arith) (omega arith))) (refl, refl)
  cut_last (b ∷ bs) (suc k) lt is none =
      let some : is_last p b bs ≡ false =
      rw (list_any_at p bs k 0 (omega arith) is) (and_right (p b) false refl) in
      let rest =
      cut_last bs k (omega arith) is (λ i low high. none (suc i) (omega arith) (omega arith)) in
      rw some (ap (λ (x : List ℕ). b ∷ x) rest.0, rest.1)

  last_at : (bytes : List ℕ) (k : ℕ) → IsLastByte p bytes (Some k)
      → (take k bytes ≡ before_last p bytes) × (drop (suc k) bytes ≡ after_last p bytes)
  last_at bytes k h =
      cut_last bytes k h.0.high h.1
      (λ i low high. false_from_ne_true _ (h.0.after i (omega arith) high))

  pub last-any : (bytes : List ℕ) (k : ℕ) → IsLastByte p bytes (Some k) → list_any p bytes ≡ true
  last-any bytes k h = list_any_at p bytes k 0 h.0.high h.1

  pub last-before : (bytes : List ℕ) (k : ℕ) → IsLastByte p bytes (Some k)
      → take k bytes ≡ before_last p bytes
  last-before bytes k h = (last_at bytes k h).0

  pub last-after : (bytes : List ℕ) (k : ℕ) → IsLastByte p bytes (Some k)
      → take (length bytes - (k + 1)) (drop (k + 1) bytes) ≡ after_last p bytes
  last-after bytes k h = rw (from-drop, add-one) (last_at bytes k h).1

  pub last-none : (bytes : List ℕ) → IsLastByte p bytes None → list_any p bytes ≡ false
  last-none bytes h = none_any bytes (λ i lt. false_from_ne_true _ (h i (omega arith) lt))
