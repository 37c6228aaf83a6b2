-- The map behind two branches, by the words of each name.
use Rattle.std.proofs.Common.{◌≡◌, inl, inr, ℕ, zero, suc, ◌+◌, ◌<◌, ◌≤◌, Bool, true, false, not, ◌&&◌, ◌||◌, ◌==◌, List, [], ◌∷◌, length, max, refl, sym, ap, ap₂, ◌∙◌, subst, arith, length-set, get_or-set_same, get_or-set_other}
use Rattle.std.specs.Prelude.{slice_index, slice_index_or, slice_set, nat_lt, bit_or, if◌then◌else◌}
use Rattle.std.proofs.lemmas.Bool.{both_ways, cond-true, cond-false, cases_Bool, cases_eq, cases_lt, lt-ltb, le-ltb, eqb-true, eq-eqb, ne_eqb}
use Rattle.std.proofs.lemmas.List.{get_or_past}
use Rattle.clause_kernel.specs.Rows.{word_has}
use Rattle.clause_kernel.proofs.Words.{word_has_zero}
use Rattle.farm_model.specs.Common.{Universe, names, variants}
use Rattle.farm_model.proofs.BelowLaws.{some_below-at, some_below-none}
use Rattle.plan_model.specs.Common.{Bits, MaySlot, MayAbsent, MayUnpacked, MayConfigured, May, may_use, is_same_phase, phases_differ, either, either_last, joined_slot, both_built, joined_may}
use Rattle.may_rows.specs.Joins.{either_last_word, joined_below, BothBelow, joined_rest}
use Rattle.may_rows.specs.Words.{Words, slot_of, may_of, joined_word, with_slot, AreOfName, AreWords}
use Rattle.may_rows.proofs.Joins.{some-word, joined-words}

-- two branches that hold the same of a name hold it behind both
module _ (u : Universe) (n : ℕ) where
  once : (b : Bool) → (b || b) ≡ b
  once true = refl
  once false = refl

  either-once : (set : Bits) → either set set ≡ set
  either-once set = λ i b. once (set b) i

  last-once : (last : ℕ) → ((b : ℕ) → word_has last b ≡ true → b < variants u n)
      → either_last u n (word_has last) (word_has last) ≡ word_has last
  last-once last known = λ i b. by b i
    where
      none : (b : ℕ) → (last == 0) ≡ true → word_has last b ≡ false
      none b e = ap (λ w. word_has w b) (eqb-true last 0 e) ∙ word_has_zero b

      by : (b : ℕ) → either_last u n (word_has last) (word_has last) b ≡ word_has last b
      by b =
          elim (cases_Bool (last == 0)) [
            | inl empty ↦ rw (some-word u n last known, empty) (sym (none b empty))
            | inr some ↦ rw (some-word u n last known, some) (once (word_has last b))
          ]

  pub slot-once : (h r l b : ℕ) → AreOfName (variants u n) h r l b
      → joined_slot u n (slot_of h r l) (slot_of h r l) ≡ slot_of h r l
  slot-once h r l b is = by (h == 0) (r == 0) refl refl
    where
      twice : (s : MaySlot) → slot_of h r l ≡ s → joined_slot u n s s ≡ s
          → joined_slot u n (slot_of h r l) (slot_of h r l) ≡ slot_of h r l
      twice s e same = ap (λ t. joined_slot u n t t) e ∙ same ∙ sym e

      by : (x z : Bool) → (h == 0) ≡ x → (r == 0) ≡ z
          → joined_slot u n (slot_of h r l) (slot_of h r l) ≡ slot_of h r l
      by true z e a = twice MayAbsent (cond-true (h == 0) MayAbsent _ e) refl
      by false true e a =
          twice (MayUnpacked (word_has h) (word_has l))
          (cond-false (h == 0) MayAbsent _ e ∙ cond-true (r == 0) _ _ a)
          (ap₂ MayUnpacked (either-once (word_has h)) (last-once l is.last_known))
      by false false e a =
          twice (MayConfigured (word_has h))
          (cond-false (h == 0) MayAbsent _ e ∙ cond-false (r == 0) _ _ a)
          (ap MayConfigured (either-once (word_has h)))

-- the words of a name in a branch, and where it is in one phase
module _ (u : Universe) (first w : Words) (n : ℕ) (is : AreWords u first) (are : AreWords u w)
    (phase : is_same_phase ((may_of first).slots n) ((may_of w).slots n) ≡ true) where
  abbrev first_here : ℕ
  first_here = slice_index first.here n

  abbrev first_ready : ℕ
  first_ready = slice_index first.ready n

  abbrev first_last : ℕ
  first_last = slice_index first.last n

  abbrev this_here : ℕ
  this_here = slice_index w.here n

  abbrev this_ready : ℕ
  this_ready = slice_index w.ready n

  abbrev this_last : ℕ
  this_last = slice_index w.last n

  pub name-joined : AreOfName (variants u n) (bit_or first_here this_here)
      (bit_or first_ready this_ready) (either_last_word first_last this_last)
      (joined_word (bit_or first_here this_here) (either_last_word first_last this_last))
      × (slot_of (bit_or first_here this_here) (bit_or first_ready this_ready)
      (either_last_word first_last this_last)
      ≡ joined_slot u n ((may_of first).slots n) ((may_of w).slots n))
  name-joined =
      joined-words u n first_here first_ready first_last (slice_index first.both n)
      this_here this_ready this_last (slice_index w.both n) (is.each n) (are.each n) phase

  -- a name with the same words has the same slot
  same-slot : first_here ≡ this_here → first_last ≡ this_last
      → (may_of first).slots n ≡ (may_of w).slots n
  same-slot h l =
      by (this_here == 0) (this_ready == 0) (first_ready == 0) refl refl refl
    where
      first_zero : (z : Bool) → (this_here == 0) ≡ z → (first_here == 0) ≡ z
      first_zero z e = ap (λ k. k == 0) h ∙ e

      other_phase : (s t : MaySlot) → (may_of first).slots n ≡ s → (may_of w).slots n ≡ t
          → is_same_phase s t ≡ false → ⊥
      other_phase s t e f no_phase = both_ways _ no_phase
          (ap₂ is_same_phase (sym e) (sym f) ∙ phase)

      unpacked : (here ready last : ℕ) → (here == 0) ≡ false → (ready == 0) ≡ true
          → slot_of here ready last ≡ MayUnpacked (word_has here) (word_has last)
      unpacked here ready last e f =
          cond-false (here == 0) MayAbsent _ e ∙ cond-true (ready == 0) _ _ f

      configured : (here ready last : ℕ) → (here == 0) ≡ false → (ready == 0) ≡ false
          → slot_of here ready last ≡ MayConfigured (word_has here)
      configured here ready last e f =
          cond-false (here == 0) MayAbsent _ e ∙ cond-false (ready == 0) _ _ f

      by : (x y z : Bool) → (this_here == 0) ≡ x → (this_ready == 0) ≡ y
          → (first_ready == 0) ≡ z → (may_of first).slots n ≡ (may_of w).slots n
      by true y z e f g =
          cond-true (first_here == 0) MayAbsent _ (first_zero true e)
          ∙ sym (cond-true (this_here == 0) MayAbsent _ e)
      by false true true e f g =
          unpacked first_here first_ready first_last (first_zero false e) g
          ∙ ap₂ (λ a b. MayUnpacked (word_has a) (word_has b)) h l
          ∙ sym (unpacked this_here this_ready this_last e f)
      by false false false e f g =
          configured first_here first_ready first_last (first_zero false e) g
          ∙ ap (λ a. MayConfigured (word_has a)) h
          ∙ sym (configured this_here this_ready this_last e f)
      by false true false e f g = absurd (other_phase _ _
          (configured first_here first_ready first_last (first_zero false e) g)
          (unpacked this_here this_ready this_last e f) refl)
      by false false true e f g = absurd (other_phase _ _
          (unpacked first_here first_ready first_last (first_zero false e) g)
          (configured this_here this_ready this_last e f) refl)

  pub name-stays : first_here ≡ this_here → first_last ≡ this_last
      → may_of w ≡ with_slot (may_of w) n (joined_slot u n ((may_of first).slots n)
      ((may_of w).slots n))
  name-stays h l =
      λ i. record { slots = λ k. slot k i; cost = w.cost; built = w.built }
    where
      here : joined_slot u n ((may_of first).slots n) ((may_of w).slots n) ≡ (may_of w).slots n
      here = ap (λ s. joined_slot u n s ((may_of w).slots n)) (same-slot h l)
          ∙ slot-once u n this_here this_ready this_last (slice_index w.both n) (are.each n)

      slot : (k : ℕ) → (may_of w).slots k ≡ (with_slot (may_of w) n (joined_slot u n
          ((may_of first).slots n) ((may_of w).slots n))).slots k
      slot k =
          elim (cases_eq k n) [
            | inl same ↦ ap (λ j. (may_of w).slots j) same ∙ sym here
                ∙ sym (cond-true (k == n) _ ((may_of w).slots k) (eq-eqb k n same))
            | inr other ↦ sym (cond-false (k == n) (joined_slot u n ((may_of first).slots n)
                ((may_of w).slots n)) ((may_of w).slots k) (ne_eqb k n other))
          ]

-- the slot of another name
pub slot-other : (m : May) (n k : ℕ) (s : MaySlot) → n < k → (with_slot m n s).slots k ≡ m.slots k
slot-other m n k s lt =
    cond-false (k == n) s (m.slots k) (ne_eqb k n (λ e. omega (arith, e, lt)))

-- a name with the same three words has the same slot
pub slot-same : (w v : Words) (n : ℕ) → slice_index w.here n ≡ slice_index v.here n
    → slice_index w.ready n ≡ slice_index v.ready n → slice_index w.last n ≡ slice_index v.last n
    → (may_of w).slots n ≡ (may_of v).slots n
slot-same w v n here ready last =
    ap (λ a. slot_of a (slice_index w.ready n) (slice_index w.last n)) here
    ∙ ap (λ a. slot_of (slice_index v.here n) a (slice_index w.last n)) ready
    ∙ ap (slot_of (slice_index v.here n) (slice_index v.ready n)) last

phase-itself : (s : MaySlot) → is_same_phase s s ≡ true
phase-itself MayAbsent = refl
phase-itself (MayUnpacked current last) = refl
phase-itself (MayConfigured current) = refl

-- and so it is in one phase
pub phase-same : (s t : MaySlot) → t ≡ s → is_same_phase s t ≡ true
phase-same s t e = ap (is_same_phase s) e ∙ phase-itself s

-- a name that is in two phases makes phases differ
pub phases-part : (u : Universe) (first w : Words) (n : ℕ) → n < names u → {same : Bool}
    → same ≡ is_same_phase ((may_of first).slots n) ((may_of w).slots n) → same ≡ false
    → true ≡ phases_differ u (may_of first) (may_of w)
unfolding phases_differ
phases-part u first w n lt e none =
    sym (some_below-at (names u)
    (λ k. not (is_same_phase ((may_of first).slots k) ((may_of w).slots k))) n lt
    (ap not (sym e ∙ none)))

-- and where none does, each name is in one
pub phases-same : (u : Universe) (first w : Words) (n : ℕ) → n < names u
    → phases_differ u (may_of first) (may_of w) ≡ false
    → is_same_phase ((may_of first).slots n) ((may_of w).slots n) ≡ true
unfolding phases_differ
phases-same u first w n lt e =
    elim (cases_Bool (is_same_phase ((may_of first).slots n) ((may_of w).slots n))) [
      | inl same ↦ same
      | inr other ↦ absurd (both_ways _ e (some_below-at (names u)
          (λ k. not (is_same_phase ((may_of first).slots k) ((may_of w).slots k))) n lt
          (ap not other)))
    ]

module _ (u : Universe) (first m : May) where
  pub below-zero : m ≡ joined_below u first 0 m
  below-zero = λ i. record { slots = λ n. slot n i; cost = m.cost; built = m.built }
    where
      slot : (n : ℕ) → m.slots n ≡ (joined_below u first 0 m).slots n
      slot n = sym (cond-false (nat_lt n 0) (joined_slot u n (first.slots n) (m.slots n))
          (m.slots n)
          (le-ltb n 0 (omega arith)))

  -- the slot of a name that is not joined yet
  pub below-here : (k : ℕ) → (joined_below u first k m).slots k ≡ m.slots k
  below-here k = cond-false (nat_lt k k) (joined_slot u k (first.slots k) (m.slots k)) (m.slots k)
      (le-ltb k k (omega arith))

  -- and of those behind it
  pub below-rest : (k n : ℕ) → k ≤ n → (joined_below u first k m).slots n ≡ m.slots n
  below-rest k n ge = cond-false (nat_lt n k) (joined_slot u n (first.slots n) (m.slots n))
      (m.slots n) (le-ltb n k ge)

  -- one name more
  pub below-next : (k : ℕ) (w next : May) → w ≡ joined_below u first k m
      → next ≡ with_slot w k (joined_slot u k (first.slots k) (w.slots k))
      → next ≡ joined_below u first (k + 1) m
  below-next k w next so_far added =
      added ∙ ap (λ (v : May). with_slot v k (joined_slot u k (first.slots k) (v.slots k))) so_far
      ∙ (λ i. record { slots = λ n. slot n i; cost = m.cost; built = m.built })
    where
      slot : (n : ℕ) → (with_slot (joined_below u first k m) k
          (joined_slot u k (first.slots k) ((joined_below u first k m).slots k))).slots n
          ≡ (joined_below u first (k + 1) m).slots n
      slot n =
          elim (cases_eq n k) [
            | inl same ↦
                cond-true (n == k) _ ((joined_below u first k m).slots n) (eq-eqb n k same)
                ∙ ap (joined_slot u k (first.slots k)) (below-here k)
                ∙ ap (λ j. joined_slot u j (first.slots j) (m.slots j)) (sym same)
                ∙ sym (cond-true (nat_lt n (k + 1)) _ (m.slots n) (lt-ltb n (k + 1) (omega arith)))
            | inr other ↦
                cond-false (n == k) (joined_slot u k (first.slots k)
                ((joined_below u first k m).slots k)) ((joined_below u first k m).slots n)
                (ne_eqb n k other)
                ∙ ap (λ b. if b then joined_slot u n (first.slots n) (m.slots n) else m.slots n)
                (below n other)
          ]
        where
          below : (j : ℕ) → (j ≡ k → ⊥) → nat_lt j k ≡ nat_lt j (k + 1)
          below j other =
              elim (cases_lt j k) [
                | inl lt ↦ lt-ltb j k lt ∙ sym (lt-ltb j (k + 1) (omega (arith, lt)))
                | inr ge ↦ le-ltb j k ge ∙ sym (le-ltb j (k + 1) (past j other ge))
              ]
            where
              past : (i : ℕ) → (i ≡ k → ⊥) → k ≤ i → k + 1 ≤ i
              past i other ge =
                  elim (cases_lt k i) [
                    | inl lt ↦ omega (arith, lt)
                    | inr le ↦ absurd (other (omega (arith, le, ge)))
                  ]

-- names that hold the same in both branches are joined as they are
pub below-stays : (u : Universe) (first old : Words) → AreWords u old → (m : May) (from to : ℕ)
    → from ≤ to
    → ((n : ℕ) → from ≤ n → n < to → (may_of old).slots n ≡ (may_of first).slots n)
    → may_of old ≡ joined_below u (may_of first) from m
    → may_of old ≡ joined_below u (may_of first) to m
below-stays u first old are m from to order same so_far =
    so_far ∙ (λ i. record { slots = λ n. slot n i; cost = m.cost; built = m.built })
  where
    joined : (n : ℕ) → from ≤ n → n < to
        → joined_slot u n ((may_of first).slots n) (m.slots n) ≡ m.slots n
    joined n low high =
        let held : (may_of old).slots n ≡ m.slots n =
        ap (λ (v : May). v.slots n) so_far ∙ below-rest u (may_of first) m from n low in
        let of_first : (may_of first).slots n ≡ m.slots n = sym (same n low high) ∙ held in
        ap (λ s. joined_slot u n s (m.slots n)) of_first
        ∙ subst (λ s. joined_slot u n s s ≡ s) held
        (slot-once u n (slice_index old.here n) (slice_index old.ready n)
        (slice_index old.last n) (slice_index old.both n) (are.each n))

    slot : (n : ℕ) → (joined_below u (may_of first) from m).slots n
        ≡ (joined_below u (may_of first) to m).slots n
    slot n =
        let both = joined_slot u n ((may_of first).slots n) (m.slots n) in
        elim (cases_lt n from) [
          | inl lt ↦
              cond-true (nat_lt n from) both (m.slots n) (lt-ltb n from lt)
              ∙ sym (cond-true (nat_lt n to) both (m.slots n)
              (lt-ltb n to (omega (arith, lt, order))))
          | inr low ↦
              cond-false (nat_lt n from) both (m.slots n) (le-ltb n from low)
              ∙ elim (cases_lt n to) [
                | inl high ↦
                    sym (cond-true (nat_lt n to) both (m.slots n) (lt-ltb n to high)
                    ∙ joined n low high)
                | inr past ↦
                    sym (cond-false (nat_lt n to) both (m.slots n) (le-ltb n to past))
              ]
        ]

-- what holds below a number and at it holds below the next one
pub below-more : {P : ℕ → Type 0} (n : ℕ) → ((k : ℕ) → k < n → P k) → P n
    → (k : ℕ) → k < n + 1 → P k
below-more {P = P} n each here k lt =
    elim (cases_lt k n) [
      | inl less ↦ each k less
      | inr ge ↦ let same : n ≡ k = omega (arith, lt, ge) in subst P same here
    ]

-- where each name is in one phase none differs
pub phases-none : (u : Universe) (first w : Words)
    → ((k : ℕ) → k < names u
    → is_same_phase ((may_of first).slots k) ((may_of w).slots k) ≡ true)
    → phases_differ u (may_of first) (may_of w) ≡ false
unfolding phases_differ
phases-none u first w each =
    some_below-none (names u)
    (λ k. not (is_same_phase ((may_of first).slots k) ((may_of w).slots k)))
    (λ k lt. ap not (each k lt))

-- past the last name nothing is held, so the joined names are all
module _ (u : Universe) (first w : Words) (is : AreWords u first) (are : AreWords u w) where
  no_word : (words : List ℕ) → length words ≡ names u → (n : ℕ) → names u ≤ n
      → slice_index words n ≡ 0
  no_word words long n ge = get_or_past words n 0 (omega (arith, long, ge))

  absent : (v : Words) → AreWords u v → (n : ℕ) → names u ≤ n → (may_of v).slots n ≡ MayAbsent
  absent v of n ge =
      cond-true (slice_index v.here n == 0) MayAbsent _
      (eq-eqb (slice_index v.here n) 0 (no_word v.here of.here_long n ge))

  pub below-all : (n : ℕ) → (joined_below u (may_of first) (names u) (may_of w)).slots n
      ≡ joined_slot u n ((may_of first).slots n) ((may_of w).slots n)
  below-all n =
      elim (cases_lt n (names u)) [
        | inl lt ↦ cond-true (nat_lt n (names u)) _ ((may_of w).slots n) (lt-ltb n (names u) lt)
        | inr ge ↦
            cond-false (nat_lt n (names u)) (joined_slot u n ((may_of first).slots n)
            ((may_of w).slots n)) ((may_of w).slots n) (le-ltb n (names u) ge)
            ∙ absent w are n ge
            ∙ sym (ap₂ (joined_slot u n) (absent first is n ge) (absent w are n ge))
      ]

-- the recipes below a number joined
pub both-suc : (xs ys zs : List Bool) (k : ℕ) → BothBelow xs ys k zs → k < length zs
    → (both : Bool) → both ≡ (slice_index_or xs k false && slice_index_or zs k false)
    → BothBelow xs ys (k + 1) (slice_set zs k both)
both-suc xs ys zs k so_far lt both is =
    record {
      long = length-set zs k both ∙ so_far.long;
      below = below-more k
          (λ r less. get_or-set_other zs k r both false (λ e. absurd (omega (arith, e, less)))
          ∙ so_far.below r less)
          (get_or-set_same zs k both false lt ∙ is
          ∙ ap (λ b. slice_index_or xs k false && b) (so_far.others k (omega arith)));
      others = λ r ge. get_or-set_other zs k r both false (λ e. absurd (omega (arith, e, ge)))
          ∙ so_far.others r (omega (arith, ge));
    }

pub both-length : (ps qs : List Bool) → length ps ≡ length qs
    → length (both_built ps qs) ≡ length qs
both-length [] [] e = refl
both-length [] (b ∷ qs) e = cc
both-length (a ∷ ps) [] e = cc
both-length (a ∷ ps) (b ∷ qs) e = ap suc (both-length ps qs (omega (arith, e)))

pub both-end : (xs ys zs : List Bool) → length xs ≡ length ys → BothBelow xs ys (length zs) zs
    → zs ≡ both_built xs ys
both-end xs ys zs same is =
    list_same zs (both_built xs ys) (is.long ∙ sym (both-length xs ys same))
    (λ r lt. is.below r lt ∙ both-at xs ys r same)
  where
    both-at : (ps qs : List Bool) (r : ℕ) → length ps ≡ length qs
        → (slice_index_or ps r false && slice_index_or qs r false)
        ≡ slice_index_or (both_built ps qs) r false
    both-at [] [] r e = refl
    both-at [] (b ∷ qs) r e = cc
    both-at (a ∷ ps) [] r e = cc
    both-at (a ∷ ps) (b ∷ qs) zero e = refl
    both-at (a ∷ ps) (b ∷ qs) (suc r) e = both-at ps qs r (omega (arith, e))

    list_same : (ps qs : List Bool) → length ps ≡ length qs
        → ((r : ℕ) → r < length ps → slice_index_or ps r false ≡ slice_index_or qs r false)
        → ps ≡ qs
    list_same [] [] e each = refl
    list_same [] (b ∷ qs) e each = cc
    list_same (a ∷ ps) [] e each = cc
    list_same (a ∷ ps) (b ∷ qs) e each =
        ap₂ (λ x xs. x ∷ xs) (each zero (omega arith))
        (list_same ps qs (omega (arith, e)) (λ r lt. each (suc r) (omega (arith, lt))))

-- the words behind both branches, with their cost and their builds
pub are-joined : (u : Universe) (first w : Words) → AreWords u first → AreWords u w
    → AreWords u (joined_rest first w)
unfolding may_use
are-joined u first w is are = record {
  here_long = are.here_long;
  ready_long = are.ready_long;
  last_long = are.last_long;
  both_long = are.both_long;
  built_long = both-length first.built w.built (is.built_long ∙ sym are.built_long)
      ∙ are.built_long;
  each = are.each;
  used_is = are.used_is;
}

pub map-joined : (u : Universe) (first old w : Words) → AreWords u first → AreWords u old
    → may_of w ≡ joined_below u (may_of first) (names u) (may_of old)
    → may_of (joined_rest first w) ≡ joined_may u (may_of first) (may_of old)
map-joined u first old w is are e =
    λ i. record { slots = λ n. slot n i; cost = spent i; built = made i }
  where
    slot : (n : ℕ) → (may_of w).slots n
        ≡ joined_slot u n ((may_of first).slots n) ((may_of old).slots n)
    slot n = ap (λ (m : May). m.slots n) e ∙ below-all u first old is are n

    spent : max first.cost w.cost ≡ max first.cost old.cost
    spent = ap (λ (m : May). max first.cost m.cost) e

    made : both_built first.built w.built ≡ both_built first.built old.built
    made = ap (λ (m : May). both_built first.built m.built) e
