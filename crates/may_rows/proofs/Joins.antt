-- The words behind two branches, and the slots that they stand for.
use Rattle.std.proofs.Common.{◌≡◌, ◌⊎◌, inl, inr, ℕ, ◌<◌, Bool, true, false, not, ◌||◌, ◌==◌, refl, sym, ap, ap₂, ◌∙◌}
use Rattle.std.specs.Prelude.{bit_or}
use Rattle.std.proofs.lemmas.Bool.{false≢true, both_ways, cond-true, cond-false, or_cases, or_left, cases_Bool, eqb-true, eq-eqb}
use Rattle.clause_kernel.specs.Rows.{word_has}
use Rattle.clause_kernel.proofs.Words.{word_has_zero, word_has-or}
use Rattle.farm_model.specs.Common.{Universe, variants}
use Rattle.plan_model.specs.Common.{MaySlot, MayAbsent, MayUnpacked, MayConfigured, is_some_of, is_same_phase, either, either_last, joined_slot}
use Rattle.may_rows.specs.Joins.{either_last_word}
use Rattle.may_rows.specs.Words.{slot_of, joined_word, AreOfName}
use Rattle.may_rows.proofs.MetAhead.{some_bit_of, no_bit_of, joined_nonzero}

module _ (u : Universe) (n : ℕ) where
  pub some-word : (word : ℕ) → ((b : ℕ) → word_has word b ≡ true → b < variants u n)
      → is_some_of u n (word_has word) ≡ not (word == 0)
  some-word word known =
      elim (cases_Bool (word == 0)) [
        | inl none ↦
            ap (λ w. is_some_of u n (word_has w)) (eqb-true word 0 none)
            ∙ no_bit_of u n ∙ sym (ap not none)
        | inr some ↦ some_bit_of u n word some known ∙ sym (ap not some)
      ]

  either-word : (x y : ℕ) → word_has (bit_or x y) ≡ either (word_has x) (word_has y)
  either-word x y = λ i b. word_has-or x y b i

  -- the word of what was configured last
  last-word : (last other : ℕ) → ((b : ℕ) → word_has last b ≡ true → b < variants u n)
      → ((b : ℕ) → word_has other b ≡ true → b < variants u n) → (b : ℕ)
      → word_has (either_last_word last other) b
      ≡ either_last u n (word_has last) (word_has other) b
  last-word last other known there b =
      by (last == 0) (other == 0) refl refl
    where
      by : (z y : Bool) → (last == 0) ≡ z → (other == 0) ≡ y
          → word_has (either_last_word last other) b
          ≡ either_last u n (word_has last) (word_has other) b
      by true y e f =
          rw (some-word last known, e) (word_has_zero b)
      by false true e f =
          rw (some-word last known, some-word other there, e, f) (word_has_zero b)
      by false false e f =
          rw (some-word last known, some-word other there, e, f) (word_has-or last other b)

  last-words : (last other : ℕ) → ((b : ℕ) → word_has last b ≡ true → b < variants u n)
      → ((b : ℕ) → word_has other b ≡ true → b < variants u n)
      → word_has (either_last_word last other)
      ≡ either_last u n (word_has last) (word_has other)
  last-words last other known there = λ i b. last-word last other known there b i

  module _ (h r l b h' r' l' b' : ℕ) (is : AreOfName (variants u n) h r l b)
      (are : AreOfName (variants u n) h' r' l' b')
      (phase : is_same_phase (slot_of h r l) (slot_of h' r' l') ≡ true) where
    abbrev all_here : ℕ
    all_here = bit_or h h'

    abbrev all_ready : ℕ
    all_ready = bit_or r r'

    abbrev all_last : ℕ
    all_last = either_last_word l l'

    known_either : (x y k : ℕ) → (word_has x k ≡ true → k < variants u n)
        → (word_has y k ≡ true → k < variants u n) → word_has (bit_or x y) k ≡ true
        → k < variants u n
    known_either x y k f g e =
        elim (or_cases _ _ (sym (word_has-or x y k) ∙ e)) [
          | inl first ↦ f first
          | inr second ↦ g second
        ]

    last_known : (k : ℕ) → word_has all_last k ≡ true → k < variants u n
    last_known k e = by (l == 0 || l' == 0) refl
      where
        by : (z : Bool) → (l == 0 || l' == 0) ≡ z → k < variants u n
        by true z = absurd (false≢true (sym (ap (λ w. word_has w k) (cond-true _ _ _ z)
            ∙ word_has_zero k) ∙ e))
        by false z = known_either l l' k (is.last_known k) (are.last_known k)
            (ap (λ w. word_has w k) (sym (cond-false _ _ _ z)) ∙ e)

    either-zero : (x y : ℕ) → x ≡ 0 → y ≡ 0 → bit_or x y ≡ 0
    either-zero x y e f = rw (e, f) refl

    no_ready : (ready here : ℕ) {last : ℕ}
        → ((ready ≡ 0) ⊎ ((ready ≡ here) × (last ≡ here))) → here ≡ 0 → ready ≡ 0
    no_ready ready here (inl none) z = none
    no_ready ready here (inr same) z = same.0 ∙ z

    absent-slot : (here ready last : ℕ) → (here == 0) ≡ true
        → slot_of here ready last ≡ MayAbsent
    absent-slot here ready last e = cond-true (here == 0) MayAbsent _ e

    unpacked-slot : (here ready last : ℕ) → (here == 0) ≡ false → (ready == 0) ≡ true
        → slot_of here ready last ≡ MayUnpacked (word_has here) (word_has last)
    unpacked-slot here ready last e f =
        cond-false (here == 0) MayAbsent _ e ∙ cond-true (ready == 0) _ _ f

    configured-slot : (here ready last : ℕ) → (here == 0) ≡ false → (ready == 0) ≡ false
        → slot_of here ready last ≡ MayConfigured (word_has here)
    configured-slot here ready last e f =
        cond-false (here == 0) MayAbsent _ e ∙ cond-false (ready == 0) _ _ f

    -- the words are those of a name, and stand for the joined slot
    abbrev AreJoined : Type 0
    AreJoined = AreOfName (variants u n) all_here all_ready all_last (joined_word all_here all_last)
        × (slot_of all_here all_ready all_last ≡ joined_slot u n (slot_of h r l) (slot_of h' r' l'))

    of_name : ((all_ready ≡ 0) ⊎ ((all_ready ≡ all_here) × (all_last ≡ all_here)))
        → (all_here ≡ 0 → all_last ≡ 0)
        → AreOfName (variants u n) all_here all_ready all_last (joined_word all_here all_last)
    of_name phase absent = record {
      phase = phase;
      absent = absent;
      here_known = λ k. known_either h h' k (is.here_known k) (are.here_known k);
      last_known = last_known;
      joined = refl;
    }

    at_absent : (h == 0) ≡ true → (h' == 0) ≡ true → AreJoined
    at_absent e f =
        let h_none = eqb-true h 0 e in
        let other_none = eqb-true h' 0 f in
        let here_none = either-zero h h' h_none other_none in
        let l_none : l ≡ 0 = is.absent h_none in
        let last_none : all_last ≡ 0 = cond-true (l == 0 || l' == 0) 0 (bit_or l l')
        (or_left (l == 0) (l' == 0) (eq-eqb l 0 l_none)) in
        let ready_none = either-zero r r' (no_ready r h is.phase h_none)
        (no_ready r' h' are.phase other_none) in (
          of_name (inl ready_none) (λ z. last_none),
          absent-slot all_here all_ready all_last (eq-eqb all_here 0 here_none)
              ∙ sym (ap₂ (joined_slot u n) (absent-slot h r l e) (absent-slot h' r' l' f)),
        )

    at_unpacked : (h == 0) ≡ false → (h' == 0) ≡ false → (r == 0) ≡ true → (r' == 0) ≡ true
        → AreJoined
    at_unpacked e f a b =
        let some = joined_nonzero u n h h' e in
        let ready_none = either-zero r r' (eqb-true r 0 a) (eqb-true r' 0 b) in (
          of_name (inl ready_none) (λ z. absurd (both_ways _ some (eq-eqb all_here 0 z))),
          unpacked-slot all_here all_ready all_last some (eq-eqb all_ready 0 ready_none)
              ∙ ap₂ MayUnpacked (either-word h h') (last-words l l' is.last_known are.last_known)
              ∙ sym (ap₂ (joined_slot u n) (unpacked-slot h r l e a)
              (unpacked-slot h' r' l' f b)),
        )

    all_same : (ready here : ℕ) {last : ℕ} → (ready == 0) ≡ false
        → ((ready ≡ 0) ⊎ ((ready ≡ here) × (last ≡ here))) → (ready ≡ here) × (last ≡ here)
    all_same ready here some (inl none) = absurd (both_ways _ some (eq-eqb ready 0 none))
    all_same ready here some (inr same) = same

    at_configured : (h == 0) ≡ false → (h' == 0) ≡ false → (r == 0) ≡ false → (r' == 0) ≡ false
        → AreJoined
    at_configured e f a b =
        let some = joined_nonzero u n h h' e in
        let one = all_same r h a is.phase in
        let other = all_same r' h' b are.phase in
        let ready_same : all_ready ≡ all_here = ap₂ bit_or one.0 other.0 in
        let l_some : (l == 0) ≡ false = ap (λ k. k == 0) one.1 ∙ e in
        let there_some : (l' == 0) ≡ false = ap (λ k. k == 0) other.1 ∙ f in
        let last_same : all_last ≡ all_here =
        cond-false (l == 0 || l' == 0) 0 (bit_or l l')
        (ap₂ (λ x y. x || y) l_some there_some) ∙ ap₂ bit_or one.1 other.1 in (
          of_name (inr (ready_same, last_same))
              (λ z. absurd (both_ways _ some (eq-eqb all_here 0 z))),
          configured-slot all_here all_ready all_last some (ap (λ k. k == 0) ready_same ∙ some)
              ∙ ap MayConfigured (either-word h h')
              ∙ sym (ap₂ (joined_slot u n) (configured-slot h r l e a)
              (configured-slot h' r' l' f b)),
        )

    pub joined-words : AreJoined
    joined-words = by (h == 0) (h' == 0) (r == 0) (r' == 0) refl refl refl refl
      where
        other_phase : (s t : MaySlot) → slot_of h r l ≡ s → slot_of h' r' l' ≡ t
            → is_same_phase s t ≡ false → ⊥
        other_phase s t e f no_phase = both_ways _ no_phase
            (ap₂ is_same_phase (sym e) (sym f) ∙ phase)

        by : (x y z w : Bool) → (h == 0) ≡ x → (h' == 0) ≡ y → (r == 0) ≡ z → (r' == 0) ≡ w
            → AreJoined
        by true true z w e f a b = at_absent e f
        by true false z true e f a b =
            absurd (other_phase _ _ (absent-slot h r l e) (unpacked-slot h' r' l' f b) refl)
        by true false z false e f a b =
            absurd (other_phase _ _ (absent-slot h r l e) (configured-slot h' r' l' f b) refl)
        by false true true w e f a b =
            absurd (other_phase _ _ (unpacked-slot h r l e a) (absent-slot h' r' l' f) refl)
        by false true false w e f a b =
            absurd (other_phase _ _ (configured-slot h r l e a) (absent-slot h' r' l' f) refl)
        by false false true true e f a b = at_unpacked e f a b
        by false false false false e f a b = at_configured e f a b
        by false false true false e f a b =
            absurd (other_phase _ _ (unpacked-slot h r l e a) (configured-slot h' r' l' f b) refl)
        by false false false true e f a b =
            absurd (other_phase _ _ (configured-slot h r l e a) (unpacked-slot h' r' l' f b) refl)
