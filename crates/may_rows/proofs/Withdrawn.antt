-- A deconfigure and a remove by the words.
use Rattle.std.proofs.Common.{◌≡◌, ◌⊎◌, inl, inr, ℕ, ◌<◌, Bool, true, false, not, ◌&&◌, ◌==◌, List, [], ◌∷◌, ◌++◌, length, All, Some, None, refl, sym, ap, ◌∙◌, if◌then◌else◌}
use Rattle.std.specs.Cmp.{both_ways as same_tests}
use Rattle.std.specs.Prelude.{slice_index_or}
use Rattle.std.specs.List.{fold, list_any}
use Rattle.std.proofs.lemmas.Bool.{cases_Bool, and_from, and_parts, eq-eqb, eqb-true, both_ways}
use Rattle.std.proofs.lemmas.Option.{none-some}
use Rattle.clause_kernel.specs.Rows.{word_has}
use Rattle.clause_kernel.proofs.Words.{word_has_zero}
use Rattle.deb_relation.specs.Relations.{Entry, Relations}
use Rattle.farm_model.specs.Common.{some_below, member, entries, Universe, variant, names, variants, satisfies_entry, first_trap}
use Rattle.farm_model.specs.declared.types.Trap.{Trap}
use Rattle.farm_model.specs.declared.types.Trap.TheVariants.{StillNeeded}
use Rattle.farm_model.proofs.BelowLaws.{some_below-at, some_below-found, some_below-same, some_below-none}
use Rattle.plan_model.specs.Common.{Lane, Bits, MaySlot, MayAbsent, MayUnpacked, MayConfigured, May, some_of, may_hold_configured, surely_configured, surely_met, is_surely_configured, may_be_last, may_be_deconfigured, surely_met_outside, may_meet, may_be_needed, IsNameSet}
use Rattle.may_rows.specs.Words.{Words, slot_of, may_of, joined_word, AreOfName, AreWords, with_slot}
use Rattle.may_rows.specs.Configures.{slots_after}
use Rattle.may_rows.specs.Withdraws.{name_withdrawn, may_be_withdrawn, may_have_met, may_be_missed, needs_at, deconfigure_risks_before}
use Rattle.may_rows.proofs.ByNumber.{any-found, any-at}
use Rattle.may_rows.proofs.MemberSlots.{member-at, first_trap-front, first_trap-back}
use Rattle.may_rows.proofs.MemberWords.{after-members}
use Rattle.may_rows.proofs.Writes.{map-written, are-written}
use Rattle.may_rows.proofs.MetAhead.{any-same}

-- ---- the words of one name, and of the members

empty_ready : (here ready last : ℕ) → (ready ≡ 0) ⊎ ((ready ≡ here) × (last ≡ here)) → here ≡ 0
    → ready ≡ 0
empty_ready here ready last (inl none) z = none
empty_ready here ready last (inr same) z = same.0 ∙ z

withdrawn-words : (count here ready last both : ℕ) → AreOfName count here ready last both
    → AreOfName count here 0 ready (joined_word here ready)
withdrawn-words count here ready last both is = record {
  phase = inl refl;
  absent = empty_ready here ready last is.phase;
  here_known = is.here_known;
  last_known = λ b has. elim is.phase [
    | inl none ↦ absurd (both_ways _ (ap (λ k. word_has k b) none ∙ word_has_zero b) has)
    | inr same ↦ is.here_known b (ap (λ k. word_has k b) (sym same.0) ∙ has)
  ];
  joined = refl;
}

withdrawn-slot : (count here ready last both : ℕ) → AreOfName count here ready last both
    → slot_of here 0 ready ≡ may_be_withdrawn (slot_of here ready last)
withdrawn-slot count here ready last both is =
    by (cases_Bool (here == 0)) (cases_Bool (ready == 0)) is.phase
  where
    by : ((here == 0) ≡ true) ⊎ ((here == 0) ≡ false)
        → ((ready == 0) ≡ true) ⊎ ((ready == 0) ≡ false)
        → (ready ≡ 0) ⊎ ((ready ≡ here) × (last ≡ here))
        → slot_of here 0 ready ≡ may_be_withdrawn (slot_of here ready last)
    by (inl z) r c = rw z refl
    by (inr h) (inl r) c =
        rw (h, r) (λ i. MayUnpacked (word_has here)
        (λ b. (ap (λ k. word_has k b) (eqb-true ready 0 r) ∙ word_has_zero b) i))
    by (inr h) (inr r) (inl none) = absurd (both_ways _ r (eq-eqb ready 0 none))
    by (inr h) (inr r) (inr same) =
        rw (h, r) (ap (λ k. MayUnpacked (word_has here) (word_has k)) same.0)

withdrawn-name : (u : Universe) (w : Words) (n : ℕ) → AreWords u w → n < names u
    → AreWords u (name_withdrawn w n)
    × (may_of (name_withdrawn w n)
    ≡ with_slot (may_of w) n (may_be_withdrawn ((may_of w).slots n)))
withdrawn-name u w n are lt = (
  are-written u w are n _ _ _ lt (withdrawn-words _ _ _ _ _ (are.each n)) w.used refl,
  map-written u w are n _ _ _ lt
      ∙ ap (with_slot (may_of w) n) (withdrawn-slot _ _ _ _ _ (are.each n)),
)

-- the members withdrawn in turn: what the words keep, and their map
pub withdrawn-members : (u : Universe) (w next : Words) (ms : List ℕ) → AreWords u w
    → IsNameSet u ms → next ≡ fold name_withdrawn w ms
    → AreWords u next × (may_of next ≡ slots_after may_be_withdrawn (may_of w) ms)
withdrawn-members u w next ms are named =
    after-members u name_withdrawn may_be_withdrawn (withdrawn-name u) w ms are named next

-- ---- members by their places

found_member : (ms : List ℕ) (n : ℕ) → member ms n ≡ true
    → (i : ℕ) × (i < length ms) × (slice_index_or ms i 0 ≡ n)
found_member ms n is =
    let f = any-found (λ k. k == n) 0 ms is in (f.0, f.1, eqb-true (slice_index_or ms f.0 0) n f.2)

-- a test of the members is a test of the names that are members
members_by_name : (count : ℕ) (ms : List ℕ) (p q : ℕ → Bool) → All (λ n. n < count) ms
    → ((n : ℕ) → member ms n ≡ true → p n ≡ q n)
    → list_any p ms ≡ some_below count (λ n. member ms n && q n)
members_by_name count ms p q known same =
    same_tests _ _
    (λ some. let f = any-found p 0 ms some in
    let n = slice_index_or ms f.0 0 in
    let is = member-at ms f.0 0 f.1 in
    some_below-at count (λ k. member ms k && q k) n (known f.0 0 f.1)
    (and_from _ _ is (sym (same n is) ∙ f.2)))
    (λ some. let f = some_below-found count (λ k. member ms k && q k) some in
    let parts = and_parts _ _ f.2 in
    let at = found_member ms f.0 parts.0 in
    any-at p 0 ms at.0 at.1 (ap p at.2 ∙ same f.0 parts.0 ∙ parts.1))

-- each member passes where none fails
pub each_member : (right : MaySlot → Bool) (m : May) (ms : List ℕ)
    → list_any (λ k. not (right (m.slots k))) ms ≡ false → (n : ℕ) → member ms n ≡ true
    → right (m.slots n) ≡ true
each_member right m ms none n is =
    elim (cases_Bool (right (m.slots n))) [
      | inl passes ↦ passes
      | inr fails ↦ let at = found_member ms n is in
          absurd (both_ways _ none
          (any-at (λ k. not (right (m.slots k))) 0 ms at.0 at.1
          (ap (λ k. not (right (m.slots k))) at.2 ∙ ap not fails)))
    ]

-- ---- what is needed

module _ (u : Universe) (ms : List ℕ) (m : May) (known : All (λ n. n < names u) ms) where
  abbrev after : May
  after = slots_after may_be_withdrawn m ms

  configured-after : (n : ℕ) (p : Bits)
      → may_hold_configured u n p (after.slots n)
      ≡ (not (member ms n) && may_hold_configured u n p (m.slots n))
  configured-after n p = by (member ms n) (m.slots n)
    where
      by : (is : Bool) (s : MaySlot)
          → may_hold_configured u n p (if is then may_be_withdrawn s else s)
          ≡ (not is && may_hold_configured u n p s)
      by true MayAbsent = refl
      by true (MayUnpacked current last) = refl
      by true (MayConfigured current) = refl
      by false s = refl

  outside-after : (e : Entry) → surely_met u after e ≡ surely_met_outside u ms m e
  unfolding surely_met surely_met_outside
  outside-after e =
      some_below-same (names u) _ _
      (λ n lt. by n (λ b. satisfies_entry u e (variant n b)) (member ms n) (m.slots n))
    where
      by : (n : ℕ) (p : Bits) (is : Bool) (s : MaySlot)
          → surely_configured u n p (if is then may_be_withdrawn s else s)
          ≡ (not is && surely_configured u n p s)
      by n p true MayAbsent = refl
      by n p true (MayUnpacked current last) = refl
      by n p true (MayConfigured current) = refl
      by n p false s = refl

  none_of : (n : ℕ) (p : Bits) → some_of u n (λ b. false) p ≡ false
  none_of n p = some_below-none (variants u n) (λ b. false) (λ b lt. refl)

  last-after : (e : Entry) (n : ℕ) → member ms n ≡ true
      → some_of u n (may_be_last (after.slots n)) (λ b. satisfies_entry u e (variant n b))
      ≡ may_hold_configured u n (λ b. satisfies_entry u e (variant n b)) (m.slots n)
  last-after e n is = rw is (by (λ b. satisfies_entry u e (variant n b)) (m.slots n))
    where
      by : (p : Bits) (s : MaySlot)
          → some_of u n (may_be_last (may_be_withdrawn s)) p ≡ may_hold_configured u n p s
      by p MayAbsent = none_of n p
      by p (MayUnpacked current last) = none_of n p
      by p (MayConfigured current) = refl

  meet-after : (e : Entry) → may_have_met u ms after e ≡ may_meet u ms m e
  unfolding may_meet
  meet-after e =
      members_by_name (names u) ms
      (λ k. some_of u k (may_be_last (after.slots k)) (λ b. satisfies_entry u e (variant k b)))
      (λ k. may_hold_configured u k (λ b. satisfies_entry u e (variant k b)) (m.slots k)) known
      (last-after e)

  missed-after : (es : Relations)
      → may_be_missed u ms after es
      ≡ list_any (λ e. may_meet u ms m e && not (surely_met_outside u ms m e)) es
  missed-after es =
      any-same _ _ es (λ e. λ i. meet-after e i && not (outside-after e i))

  pub needed-is : some_below (names u) (needs_at u ms after) ≡ may_be_needed u ms m
  unfolding may_be_needed
  needed-is =
      some_below-same (names u) _ _
      (λ n lt.
      (λ i. may_hold_configured u n (λ b. missed-after (entries u (variant n b)) i) (after.slots n))
      ∙ configured-after n (λ b. list_any
      (λ e. may_meet u ms m e && not (surely_met_outside u ms m e)) (entries u (variant n b))))

-- ---- the maps after them

pub deconfigured-is : (m : May) (ms : List ℕ)
    → list_any (λ k. not (is_surely_configured (m.slots k))) ms ≡ false
    → slots_after may_be_withdrawn m ms ≡ slots_after may_be_deconfigured m ms
deconfigured-is m ms right = λ i. record { slots = λ n. at n i; cost = m.cost; built = m.built }
  where
    same : (s : MaySlot) → is_surely_configured s ≡ true → may_be_withdrawn s
        ≡ may_be_deconfigured s
    same MayAbsent e = cc
    same (MayUnpacked current last) e = cc
    same (MayConfigured current) e = refl

    at : (n : ℕ) → (if member ms n then may_be_withdrawn (m.slots n) else m.slots n)
        ≡ (if member ms n then may_be_deconfigured (m.slots n) else m.slots n)
    at n = elim (cases_Bool (member ms n)) [
      | inl is ↦ rw is (same (m.slots n) (each_member is_surely_configured m ms right n is))
      | inr is ↦ rw is refl
    ]

pub removed-is : (m : May) (ms : List ℕ)
    → slots_after (λ s. MayAbsent) (slots_after may_be_withdrawn m ms) ms
    ≡ slots_after (λ s. MayAbsent) m ms
removed-is m ms =
    λ i. record { slots = λ n. at (member ms n) (m.slots n) i; cost = m.cost; built = m.built }
  where
    at : (is : Bool) (s : MaySlot)
        → (if is then MayAbsent else (if is then may_be_withdrawn s else s))
        ≡ (if is then MayAbsent else s)
    at true s = refl
    at false s = refl

-- ---- the first trap

second_fails : (a b : Bool) (x y : Trap) → first_trap ((a, x) ∷ (b, y) ∷ []) ≡ None → b ≡ false
unfolding first_trap
second_fails true b x y is = absurd (none-some x (sym is))
second_fails false true x y is = absurd (none-some y (sym is))
second_fails false false x y is = refl

one_trap : (t : Bool) (x : Trap) → t ≡ true → first_trap ((t, x) ∷ []) ≡ Some x
unfolding first_trap
one_trap t x is = rw is refl

no_trap : (t : Bool) (x : Trap) → t ≡ false → first_trap ((t, x) ∷ []) ≡ None
unfolding first_trap
no_trap t x is = rw is refl

pub configured_members : (of : Lane) (m : May) (ms : List ℕ)
    → first_trap (deconfigure_risks_before of m ms) ≡ None
    → list_any (λ k. not (is_surely_configured (m.slots k))) ms ≡ false
configured_members of m ms none = second_fails _ _ _ _ none

-- these tests, and then that of what is still needed
module _ (u : Universe) (ms : List ℕ) (m : May) (known : All (λ n. n < names u) ms)
    (before : List (Bool × Trap)) where
  abbrev risks : List (Bool × Trap)
  risks = before ++ (may_be_needed u ms m, StillNeeded) ∷ []

  pub told_before : (x : Trap) → first_trap before ≡ Some x → first_trap risks ≡ Some x
  told_before x is = first_trap-front before _ x is

  module _ (t : Bool) (next : May) (withdrawn : next ≡ slots_after may_be_withdrawn m ms)
      (is : t ≡ some_below (names u) (needs_at u ms next))
      (none : first_trap before ≡ None) where
    needed : may_be_needed u ms m ≡ t
    needed =
        sym (is ∙ ap (λ k. some_below (names u) (needs_at u ms k)) withdrawn
        ∙ needed-is u ms m known)

    parts : first_trap risks ≡ first_trap ((t, StillNeeded) ∷ [])
    parts =
        first_trap-back before _ none ∙ ap (λ b. first_trap ((b, StillNeeded) ∷ [])) needed

    pub told_needed : t ≡ true → first_trap risks ≡ Some StillNeeded
    told_needed yes_needed = parts ∙ one_trap t StillNeeded yes_needed

    pub told_none : t ≡ false → first_trap risks ≡ None
    told_none free = parts ∙ no_trap t StillNeeded free
