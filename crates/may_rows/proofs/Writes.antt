-- The words of one name replaced, and the map and the space after that.
--
-- Parameters: u a universe, w the words, n the name, h, r, l its new words.
use Rattle.std.proofs.Common.{◌≡◌, ◌⊎◌, inl, inr, ℕ, zero, suc, ◌+◌, ◌*◌, ◌<◌, ◌≤◌, Bool, true, false, ◌==◌, length, length-set, refl, sym, ap, subst, ◌∙◌, arith, if◌then◌else◌}
use Rattle.std.specs.Prelude.{List, slice_index, slice_set}
use Rattle.std.proofs.lemmas.Bool.{cases_eq, cases_Bool, eq-eqb, eqb-true, ne_eqb}
use Rattle.std.proofs.lemmas.List.{get_or-set_same, get_or-set_other}
use Rattle.clause_kernel.specs.Rows.{word_has}
use Rattle.clause_kernel.proofs.Words.{word_has_zero}
use Rattle.farm_model.specs.Common.{sum_below, greatest_below, Universe, variant, names, variants, size}
use Rattle.farm_model.proofs.BelowLaws.{sum_below-change, sum_below-few}
use Rattle.farm_universe.specs.Kept.{IsKept}
use Rattle.farm_universe.specs.declared.limits.TheConstants.{MOST_NAMES, MOST_SIZE}
use Rattle.farm_universe.proofs.SizeLaws.{size_small}
use Rattle.plan_model.specs.May.{greatest_size, may_size, may_use}
use Rattle.may_rows.specs.Words.{Words, slot_of, may_of, joined_word, AreOfName, AreWords, written, with_slot, with_spent}

-- ---- one place of a list

pub set-at : (xs : List ℕ) (n x : ℕ) → n < length xs → (k : ℕ)
    → slice_index (slice_set xs n x) k ≡ (if k == n then x else slice_index xs k)
set-at xs n x lt k =
    elim (cases_eq k n) [
      | inl same ↦ rw (eq-eqb k n same)
          (ap (λ j. slice_index (slice_set xs n x) j) same ∙ get_or-set_same xs n x 0 lt)
      | inr other ↦ rw (ne_eqb k n other) (get_or-set_other xs n k x 0 other)
    ]

-- ---- sizes

greatest_below-none : (n : ℕ) (p : ℕ → Bool) (f : ℕ → ℕ) → ((k : ℕ) → p k ≡ false)
    → greatest_below n p f ≡ 0
greatest_below-none zero p f none = refl
greatest_below-none (suc n) p f none = rw (none n, greatest_below-none n p f none) refl

greatest_below-few : (n : ℕ) (p : ℕ → Bool) (f : ℕ → ℕ) (most : ℕ)
    → ((k : ℕ) → k < n → f k ≤ most) → greatest_below n p f ≤ most
greatest_below-few zero p f most few = omega arith
greatest_below-few (suc n) p f most few =
    let rest = greatest_below-few n p f most (λ k lt. few k (omega arith)) in
    let here = few n (omega arith) in
    elim (cases_Bool (p n)) [
      | inl taken ↦ rw taken (omega (arith, rest, here))
      | inr left ↦ rw left (omega (arith, rest))
    ]

pub size-is : (u : Universe) (n h r l : ℕ)
    → may_size u n (slot_of h r l) ≡ greatest_size u n (word_has h)
size-is u n h r l = by (cases_Bool (h == 0)) (cases_Bool (r == 0))
  where
    by : ((h == 0) ≡ true) ⊎ ((h == 0) ≡ false) → ((r == 0) ≡ true) ⊎ ((r == 0) ≡ false)
        → may_size u n (slot_of h r l) ≡ greatest_size u n (word_has h)
    by (inl z) e =
        rw z (sym (greatest_below-none (variants u n) (word_has h) (λ b. size u (variant n b))
        (λ k. ap (λ x. word_has x k) (eqb-true h 0 z) ∙ word_has_zero k)))
    by (inr here) (inl none) = rw (here, none) refl
    by (inr here) (inr ready) = rw (here, ready) refl

sum_below-at : (n : ℕ) (f : ℕ → ℕ) (k : ℕ) → k < n → f k ≤ sum_below n f
sum_below-at zero f k lt = absurd (omega arith)
sum_below-at (suc n) f k lt =
    elim (cases_eq k n) [
      | inl same ↦ let e : f k ≡ f n = ap f same in omega arith
      | inr other ↦ let rest = sum_below-at n f k (omega arith) in omega (arith, rest)
    ]

pub greatest_size-small : (u : Universe) (n : ℕ) (set : ℕ → Bool) → IsKept u
    → greatest_size u n set ≤ MOST_SIZE
greatest_size-small u n set kept =
    greatest_below-few (variants u n) set (λ b. size u (variant n b)) MOST_SIZE
    (λ b lt. size_small u n b kept lt)

module _ (u : Universe) (w : Words) (is : AreWords u w) where
  pub size_within : (n : ℕ) → n < names u
      → greatest_size u n (word_has (slice_index w.here n)) ≤ w.used
  unfolding may_use
  size_within n lt =
      let one =
      sum_below-at (names u) (λ k. may_size u k ((may_of w).slots k)) n lt in
      let same = size-is u n (slice_index w.here n) (slice_index w.ready n)
      (slice_index w.last n) in
      omega (arith, one, same, is.used_is)

  pub used_small : IsKept u → w.used ≤ MOST_NAMES * MOST_SIZE
  unfolding may_use names
  used_small kept =
      let sum =
      sum_below-few MOST_SIZE (names u) (λ k. may_size u k ((may_of w).slots k))
      (λ k. let small =
      greatest_size-small u k (word_has (slice_index w.here k)) kept in
      let same = size-is u k (slice_index w.here k) (slice_index w.ready k)
      (slice_index w.last k) in
      omega (arith, small, same)) in
      let few = kept.few_names in
      let listed = kept.sound.listed in
      omega (arith, sum, few, listed, is.used_is)

-- ---- the words after a change

abbrev pub with_used : Words → ℕ → Words
with_used w used = record {
  here = w.here;
  ready = w.ready;
  last = w.last;
  both = w.both;
  used = used;
  cost = w.cost;
  built = w.built;
}

module _ (u : Universe) (w : Words) (is : AreWords u w) (n h r l : ℕ) (lt : n < names u) where
  slot-written : (k : ℕ)
      → (may_of (written w n h r l)).slots k ≡ (with_slot (may_of w) n (slot_of h r l)).slots k
  slot-written k =
      elim (cases_eq k n) [
        | inl same ↦
            rw (
              set-at w.here n h (omega (arith, is.here_long)) k,
              set-at w.ready n r (omega (arith, is.ready_long)) k,
              set-at w.last n l (omega (arith, is.last_long)) k,
              eq-eqb k n same,
            ) refl
        | inr other ↦
            rw (
              set-at w.here n h (omega (arith, is.here_long)) k,
              set-at w.ready n r (omega (arith, is.ready_long)) k,
              set-at w.last n l (omega (arith, is.last_long)) k,
              ne_eqb k n other,
            ) refl
      ]

  pub map-written : may_of (written w n h r l) ≡ with_slot (may_of w) n (slot_of h r l)
  map-written = λ i. record { slots = λ k. slot-written k i; cost = w.cost; built = w.built }

  abbrev name_words : Words → ℕ → Type 0
  name_words v k =
      AreOfName (variants u k) (slice_index v.here k) (slice_index v.ready k) (slice_index v.last k)
      (slice_index v.both k)

  each-written : AreOfName (variants u n) h r l (joined_word h l) → (k : ℕ)
      → name_words (written w n h r l) k
  each-written of_name k =
      elim (cases_eq k n) [
        | inl same ↦
            rw (
              set-at w.here n h (omega (arith, is.here_long)) k,
              set-at w.ready n r (omega (arith, is.ready_long)) k,
              set-at w.last n l (omega (arith, is.last_long)) k,
              set-at w.both n (joined_word h l) (omega (arith, is.both_long)) k,
              eq-eqb k n same,
              same,
            ) of_name
        | inr other ↦
            rw (
              set-at w.here n h (omega (arith, is.here_long)) k,
              set-at w.ready n r (omega (arith, is.ready_long)) k,
              set-at w.last n l (omega (arith, is.last_long)) k,
              set-at w.both n (joined_word h l) (omega (arith, is.both_long)) k,
              ne_eqb k n other,
            ) (is.each k)
      ]

  used-written : may_use u (may_of w) + greatest_size u n (word_has h)
      ≡ may_use u (may_of (written w n h r l))
      + greatest_size u n (word_has (slice_index w.here n))
  unfolding may_use
  used-written =
      let change =
      sum_below-change (names u) n (λ k. may_size u k ((may_of w).slots k))
      (λ k. may_size u k ((may_of (written w n h r l)).slots k)) lt
      (λ k b other. ap (may_size u k) (sym (slot-written k ∙ rw (ne_eqb k n other) refl))) in
      let after : may_size u n ((may_of (written w n h r l)).slots n)
      ≡ greatest_size u n (word_has h) =
      ap (may_size u n) (slot-written n ∙ rw (eq-eqb n n refl) refl) ∙ size-is u n h r l in
      let before =
      size-is u n (slice_index w.here n) (slice_index w.ready n) (slice_index w.last n) in
      omega (arith, change, after, before)

  pub are-written : AreOfName (variants u n) h r l (joined_word h l) → (used : ℕ)
      → used + greatest_size u n (word_has (slice_index w.here n))
      ≡ w.used + greatest_size u n (word_has h)
      → AreWords u (with_used (written w n h r l) used)
  unfolding may_use
  are-written of_name used is_used = record {
    here_long = length-set w.here n h ∙ is.here_long;
    ready_long = length-set w.ready n r ∙ is.ready_long;
    last_long = length-set w.last n l ∙ is.last_long;
    both_long = length-set w.both n (joined_word h l) ∙ is.both_long;
    built_long = is.built_long;
    each = each-written of_name;
    used_is = let change = used-written in omega (arith, change, is_used, is.used_is);
  }

-- the map and its space look at no cost
are-spent : (u : Universe) (w : Words) (cost : ℕ) → AreWords u w → AreWords u (with_spent w cost)
unfolding may_use
are-spent u w cost is = record {
  here_long = is.here_long;
  ready_long = is.ready_long;
  last_long = is.last_long;
  both_long = is.both_long;
  built_long = is.built_long;
  each = is.each;
  used_is = is.used_is;
}

pub words_spent : (u : Universe) (old new : Words) (cost : ℕ) → new ≡ with_spent old cost
    → AreWords u old → AreWords u new
words_spent u old new cost same is = subst (AreWords u) (sym same) (are-spent u old cost is)
