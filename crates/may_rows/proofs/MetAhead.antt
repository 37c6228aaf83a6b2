-- What surely meets an entry ahead of an unpack: the configured words lie within those that satisfy
-- it, or the present and the last configured ones together within those of one alternative.
use Rattle.std.proofs.Common.{subst, ◌≡◌, ◌⊎◌, inl, inr, ℕ, zero, suc, ◌<◌, Bool, true, false, not, ◌&&◌, ◌||◌, ◌==◌, List, [], ◌∷◌, refl, sym, ap, ◌∙◌, if◌then◌else◌}
use Rattle.std.specs.Cmp.{both_ways as same_tests}
use Rattle.std.specs.Prelude.{slice_index, bit_or}
use Rattle.std.specs.List.{list_any}
use Rattle.std.proofs.lemmas.Bool.{cases_Bool, and_parts, and_left, and_right, or_cases, or_left, or_right, both_ways, eq-eqb, eqb-true, ne_eqb}
use Rattle.clause_kernel.specs.Rows.{word_has}
use Rattle.clause_kernel.proofs.Words.{word_has_zero, word_has-or, some_bit}
use Rattle.deb_relation.specs.Relations.{Atom, Entry}
use Rattle.farm_model.specs.Common.{some_below, every_below, Universe, variant, names, variants, pre_depends, satisfies, satisfies_entry}
use Rattle.farm_model.specs.declared.types.Variant.{Variant}
use Rattle.farm_model.proofs.BelowLaws.{some_below-or, some_below-at, some_below-found, some_below-same, every_below-at, every_below-all}
use Rattle.plan_model.specs.May.{Bits, MayAbsent, May, all_of, is_some_of, surely_pre_meets, surely_pre_met}
use Rattle.sat_rows.specs.Rows.{IsRowOf, nth_entry}
use Rattle.may_rows.specs.Words.{Words, slot_of, may_of, AreOfName, AreWords, with_slot, some_name_inside, surely_met_ahead}

-- ---- tests of several things

pub any-none : {X : Type 0} (p : X → Bool) (xs : List X) → ((x : X) → p x ≡ false)
    → list_any p xs ≡ false
any-none p [] none = refl
any-none p (x ∷ xs) none = rw (none x, any-none p xs none) refl

pub any-same : {X : Type 0} (p q : X → Bool) (xs : List X) → ((x : X) → p x ≡ q x)
    → list_any p xs ≡ list_any q xs
any-same p q [] same = refl
any-same p q (x ∷ xs) same = rw (same x, any-same p q xs same) refl

none_below : (n : ℕ) → some_below n (λ k. false) ≡ false
none_below zero = refl
none_below (suc n) = none_below n

some_below-any : {X : Type 0} (n : ℕ) (p : X → ℕ → Bool) (xs : List X)
    → some_below n (λ k. list_any (λ x. p x k) xs) ≡ list_any (λ x. some_below n (p x)) xs
some_below-any n p [] = none_below n
some_below-any n p (x ∷ xs) =
    some_below-or n (p x) (λ k. list_any (λ y. p y k) xs)
    ∙ ap (λ rest. some_below n (p x) || rest) (some_below-any n p xs)

-- ---- the words of one name

module _ (u : Universe) (n : ℕ) where
  all_of-mono : (word : ℕ) (p q : Bits) → ((b : ℕ) → p b ≡ true → q b ≡ true)
      → all_of u n (word_has word) p ≡ true → all_of u n (word_has word) q ≡ true
  all_of-mono word p q more all =
      every_below-all (variants u n) (λ b. not (word_has word b) || q b)
      (λ b lt. elim (or_cases _ _
      (every_below-at (variants u n) (λ k. not (word_has word k) || p k) b lt all)) [
        | inl out ↦ or_left _ _ out
        | inr passing ↦ or_right _ _ (more b passing)
      ])

  any_for_all : {X : Type 0} (word : ℕ) (p : X → Bits) (xs : List X)
      → list_any (λ x. not (word == 0) && all_of u n (word_has word) (p x)) xs ≡ true
      → all_of u n (word_has word) (λ b. list_any (λ x. p x b) xs) ≡ true
  any_for_all word p [] some = cc
  any_for_all word p (x ∷ xs) some =
      elim (or_cases (not (word == 0) && all_of u n (word_has word) (p x))
      (list_any (λ y. not (word == 0) && all_of u n (word_has word) (p y)) xs) some) [
        | inl here ↦ all_of-mono word (p x) (λ b. list_any (λ y. p y b) (x ∷ xs))
            (λ b sat. or_left (p x b) (list_any (λ y. p y b) xs) sat)
            (and_parts (not (word == 0)) (all_of u n (word_has word) (p x)) here).1
        | inr rest ↦ all_of-mono word (λ b. list_any (λ y. p y b) xs)
            (λ b. list_any (λ y. p y b) (x ∷ xs))
            (λ b sat. or_right (p x b) (list_any (λ y. p y b) xs) sat)
            (any_for_all word p xs rest)
      ]

  -- both words pass where their bits together do
  all_of-or : (x y : ℕ) (p : Bits)
      → all_of u n (word_has (bit_or x y)) p
      ≡ (all_of u n (word_has x) p && all_of u n (word_has y) p)
  all_of-or x y p = go (variants u n)
    where
      four : (a b c d e : Bool) → ((not (a || b) || c) && (d && e))
          ≡ (((not a || c) && d) && ((not b || c) && e))
      four true true true d e = refl
      four true true false d e = refl
      four true false true d e = refl
      four true false false d e = refl
      four false true true true e = refl
      four false true true false e = refl
      four false true false true e = refl
      four false true false false e = refl
      four false false c true e = refl
      four false false c false e = refl

      go : (k : ℕ) → every_below k (λ b. not (word_has (bit_or x y) b) || p b)
          ≡ (every_below k (λ b. not (word_has x b) || p b)
          && every_below k (λ b. not (word_has y b) || p b))
      go zero = refl
      go (suc k) =
          rw (word_has-or x y k, go k)
          (four (word_has x k) (word_has y k) (p k)
          (every_below k (λ b. not (word_has x b) || p b))
          (every_below k (λ b. not (word_has y b) || p b)))

  pub some_bit_of : (word : ℕ) → (word == 0) ≡ false
      → ((b : ℕ) → word_has word b ≡ true → b < variants u n)
      → is_some_of u n (word_has word) ≡ true
  some_bit_of word nonzero known =
      let bit = some_bit word (λ z. both_ways _ nonzero (eq-eqb word 0 z)) in
      some_below-at (variants u n) (word_has word) bit.0 (known bit.0 bit.1) bit.1

  pub no_bit_of : is_some_of u n (word_has 0) ≡ false
  no_bit_of = elim (cases_Bool (is_some_of u n (word_has 0))) [
    | inl some ↦ let f = some_below-found (variants u n) (word_has 0) some in
        absurd (both_ways _ (word_has_zero f.0) f.2)
    | inr none ↦ none
  ]

  pub joined_nonzero : (x y : ℕ) → (x == 0) ≡ false → (bit_or x y == 0) ≡ false
  joined_nonzero x y nonzero =
      ne_eqb (bit_or x y) 0 (λ z.
      let bit = some_bit x (λ e. both_ways _ nonzero (eq-eqb x 0 e)) in
      both_ways _ (ap (λ k. word_has k bit.0) z ∙ word_has_zero bit.0)
      (word_has-or x y bit.0 ∙ or_left _ _ bit.1))

  module _ (e : Entry) (here ready last both : ℕ)
      (is : AreOfName (variants u n) here ready last both) where
    abbrev inside : Bits → ℕ → Bool
    inside p word = not (word == 0) && all_of u n (word_has word) p

    abbrev entry_bits : Bits
    entry_bits b = satisfies_entry u e (variant n b)

    abbrev atom_bits : Atom → Bits
    atom_bits a b = satisfies u a (variant n b)

    atom_is_entry : (word : ℕ) → list_any (λ a. inside (atom_bits a) word) e ≡ true
        → all_of u n (word_has word) entry_bits ≡ true
    atom_is_entry word some = any_for_all word atom_bits e some

    abbrev Told : Type 0
    Told = surely_pre_meets u e n (slot_of here ready last)
        ≡ (inside entry_bits ready || list_any (λ a. inside (atom_bits a) both) e)

    none_inside : both ≡ 0 → list_any (λ a. inside (atom_bits a) both) e ≡ false
    none_inside nothing =
        any-none (λ a. inside (atom_bits a) both) e
        (λ a. and_left _ _ (ap not (eq-eqb both 0 nothing)))

    when_absent : (here == 0) ≡ true → Told
    when_absent z =
        let empty = eqb-true here 0 z in
        let no_last = is.absent empty in
        let no_both : both ≡ 0 = is.joined ∙ rw (eq-eqb last 0 no_last) refl in
        let no_ready : (ready == 0) ≡ true =
        elim is.phase [
          | inl none ↦ eq-eqb ready 0 none
          | inr same ↦ eq-eqb ready 0 (same.0 ∙ empty)
        ] in
        rw (z, no_ready) (sym (none_inside no_both))

    when_never : (here == 0) ≡ false → (ready == 0) ≡ true → (last == 0) ≡ true → Told
    when_never h r l =
        let no_last = eqb-true last 0 l in
        let no_both : both ≡ 0 = is.joined ∙ rw l refl in
        rw (h, r)
        (and_right _ _ (and_left _ _
        (ap (λ word. is_some_of u n (word_has word)) no_last ∙ no_bit_of))
        ∙ sym (none_inside no_both))

    when_unpacked : (here == 0) ≡ false → (ready == 0) ≡ true → (last == 0) ≡ false → Told
    when_unpacked h r l =
        let joined : both ≡ bit_or here last = is.joined ∙ rw l refl in
        let nonzero : (both == 0) ≡ false = ap (λ k. k == 0) joined ∙ joined_nonzero here last h in
        rw (h, r, some_bit_of here h is.here_known, some_bit_of last l is.last_known)
        (any-same _ (λ a. inside (atom_bits a) both) e
        (λ a. rw (nonzero, joined) (sym (all_of-or here last (atom_bits a)))))

    when_configured : (here == 0) ≡ false → (ready == 0) ≡ false → ready ≡ here → last ≡ here → Told
    when_configured h r same was =
        let joined : both ≡ bit_or here here =
        is.joined ∙ rw (ap (λ k. k == 0) was ∙ h, was) refl in
        rw (h, r, same)
        (same_tests _ _ (λ all. or_left _ _ all)
        (λ some. elim (or_cases _ _ some) [
          | inl all ↦ all
          | inr one ↦ (and_parts _ _ (sym (all_of-or here here entry_bits)
              ∙ ap (λ word. all_of u n (word_has word) entry_bits) (sym joined)
              ∙ atom_is_entry both one)).0
        ]))

    pub told : Told
    told = by (cases_Bool (here == 0)) (cases_Bool (ready == 0)) (cases_Bool (last == 0)) is.phase
      where
        by : ((here == 0) ≡ true) ⊎ ((here == 0) ≡ false)
            → ((ready == 0) ≡ true) ⊎ ((ready == 0) ≡ false)
            → ((last == 0) ≡ true) ⊎ ((last == 0) ≡ false)
            → (ready ≡ 0) ⊎ ((ready ≡ here) × (last ≡ here)) → Told
        by (inl z) r l c = when_absent z
        by (inr h) (inl r) (inl l) c = when_never h r l
        by (inr h) (inl r) (inr l) c = when_unpacked h r l
        by (inr h) (inr r) l (inl none) = absurd (both_ways _ r (eq-eqb ready 0 none))
        by (inr h) (inr r) l (inr same) = when_configured h r same.0 same.1

-- ---- the tests of a may map

pub ahead-inside : (u : Universe) (w : Words) (e : Entry) → AreWords u w
    → surely_met_ahead u (may_of w) e
    ≡ (some_name_inside u w.ready (satisfies_entry u e)
    || list_any (λ a. some_name_inside u w.both (satisfies u a)) e)
ahead-inside u w e is =
    some_below-same (names u) _ _ (λ n lt. told u n e _ _ _ _ (is.each n))
    ∙ some_below-or (names u)
    (λ n. not (slice_index w.ready n == 0)
    && all_of u n (word_has (slice_index w.ready n)) (λ b. satisfies_entry u e (variant n b)))
    (λ n. list_any (λ a. not (slice_index w.both n == 0)
    && all_of u n (word_has (slice_index w.both n)) (λ b. satisfies u a (variant n b))) e)
    ∙ ap (λ rest. some_name_inside u w.ready (satisfies_entry u e) || rest)
    (some_below-any (names u) (λ a n. not (slice_index w.both n == 0)
    && all_of u n (word_has (slice_index w.both n)) (λ b. satisfies u a (variant n b))) e)

-- a name that is absent meets nothing
pub ahead-absent : (u : Universe) (m : May) (name : ℕ) (e : Entry)
    → surely_met_ahead u (with_slot m name MayAbsent) e ≡ surely_pre_met u name m e
unfolding surely_pre_met
ahead-absent u m name e = some_below-same (names u) _ _ (λ n lt. by n (n == name))
  where
    by : (n : ℕ) (same : Bool)
        → surely_pre_meets u e n (if same then MayAbsent else m.slots n)
        ≡ (not same && surely_pre_meets u e n (m.slots n))
    by n true = refl
    by n false = refl

-- the rows of tables of the same universe
pub entry_row_of : (t u : Universe) (v : Variant) (i : ℕ) (row : List ℕ) → t ≡ u
    → IsRowOf t (satisfies_entry t (nth_entry (pre_depends t v) i)) row
    → IsRowOf u (satisfies_entry u (nth_entry (pre_depends u v) i)) row
entry_row_of t u v i row same is =
    subst (λ s. IsRowOf s (satisfies_entry s (nth_entry (pre_depends s v) i)) row) same is

-- told by two tests, one after the other
module _ (u : Universe) (w : Words) (e : Entry) (is : AreWords u w) (t : Bool)
    (ready : t ≡ some_name_inside u w.ready (satisfies_entry u e)) where
  pub ahead_by_entry : t ≡ true → t ≡ surely_met_ahead u (may_of w) e
  ahead_by_entry met =
      met
      ∙ sym (ahead-inside u w e is
      ∙ ap (λ b. b || list_any (λ a. some_name_inside u w.both (satisfies u a)) e)
      (sym ready ∙ met))

  pub ahead_by_alternative : t ≡ false
      → list_any (λ a. some_name_inside u w.both (satisfies u a)) e
      ≡ surely_met_ahead u (may_of w) e
  ahead_by_alternative unmet =
      sym (ahead-inside u w e is
      ∙ ap (λ b. b || list_any (λ a. some_name_inside u w.both (satisfies u a)) e)
      (sym ready ∙ unmet))
