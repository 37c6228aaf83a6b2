-- After a safe instruction an entry is missed only where it was missed before, or where a variant
-- of the configured name that was unpacked over satisfies it.
use Rattle.std.proofs.Common.{◌≡◌, ◌⊎◌, inl, inr, ℕ, ◌<◌, ◌≢◌, Bool, true, false, not, ◌&&◌, ◌||◌, ◌==◌, List, [], ◌∷◌, Option, Some, None, refl, sym, ap, ◌∙◌, subst, if◌then◌else◌}
use Rattle.std.specs.Prelude.{slice_get, slice_index_or}
use Rattle.std.specs.List.{list_any}
use Rattle.std.proofs.lemmas.Bool.{cases_Bool, cases_eq, and_from, and_parts, or_cases, not-true, not_from_false, both_ways, eq-eqb, eqb-true, ne_eqb}
use Rattle.std.proofs.lemmas.List.Folds.{list_any-append}
use Rattle.std.proofs.lemmas.Option.{none-some, slice_get-get_or, slice_get_within, get_or_from_slice_get}
use Rattle.deb_relation.specs.Relations.{Entry, Relations}
use Rattle.deb_relation.specs.declared.operator.Op.{Op}
use Rattle.farm_model.specs.Common.{member, unmet, entries, first_trap, Universe, variant, names, variants, pre_depends, depends, satisfies_entry}
use Rattle.farm_model.specs.declared.types.Variant.{Variant}
use Rattle.farm_model.specs.declared.types.Trap.{Trap}
use Rattle.farm_model.proofs.BelowLaws.{some_below-at, some_below-found, some_below-mono, every_below-at}
use Rattle.farm_universe.proofs.PlaceLaws.{named}
use Rattle.plan_model.specs.Common.{Lane, Bits, MaySlot, MayAbsent, MayUnpacked, MayConfigured, May, may_hold, may_hold_configured, surely_configured, surely_met, surely_met_with, is_surely_configured, may_be_configured, may_unpack, may_change, some_may_member, configure_risks, may_meet, surely_met_outside, may_be_needed}
use Rattle.may_rows.specs.Configures.{slots_after}
use Rattle.may_rows.specs.Met.{misses_at, MayMiss, may_serve}
use Rattle.may_rows.proofs.ByNumber.{any-found, any-at}
use Rattle.may_rows.proofs.Configured.{unmet-after}
use Rattle.may_rows.proofs.MetAhead.{any-same}

-- ---- tests that imply others

pub implied : (a b : Bool) → (a ≡ true → b ≡ true) → b ≡ false → a ≡ false
implied true b to none = absurd (both_ways _ none (to refl))
implied false b to none = refl

-- an entry that is not met by more is not met by less
unmet_less : (f g : Entry → Bool) (es : Relations) → ((e : Entry) → f e ≡ true → g e ≡ true)
    → unmet g es ≡ true → unmet f es ≡ true
unmet_less f g es more is =
    let at = any-found (λ e. not (g e)) [] es is in
    any-at (λ e. not (f e)) [] es at.0 at.1
    (not_from_false _ (implied _ _ (more (slice_index_or es at.0 [])) (not-true _ at.2)))

hold_mono : (u : Universe) (n : ℕ) (p q : Bits) (s : MaySlot) → ((b : ℕ) → p b ≡ true → q b ≡ true)
    → may_hold u n p s ≡ true → may_hold u n q s ≡ true
hold_mono u n p q MayAbsent to is = is
hold_mono u n p q (MayUnpacked current last) to is =
    some_below-mono (variants u n) _ _
    (λ b lt both. let parts = and_parts _ _ both in and_from _ _ parts.0 (to b parts.1)) is
hold_mono u n p q (MayConfigured current) to is =
    some_below-mono (variants u n) _ _
    (λ b lt both. let parts = and_parts _ _ both in and_from _ _ parts.0 (to b parts.1)) is

configured_mono : (u : Universe) (n : ℕ) (p q : Bits) (s : MaySlot)
    → ((b : ℕ) → p b ≡ true → q b ≡ true)
    → may_hold_configured u n p s ≡ true → may_hold_configured u n q s ≡ true
configured_mono u n p q MayAbsent to is = is
configured_mono u n p q (MayUnpacked current last) to is = is
configured_mono u n p q (MayConfigured current) to is =
    some_below-mono (variants u n) _ _
    (λ b lt both. let parts = and_parts _ _ both in and_from _ _ parts.0 (to b parts.1)) is

-- a variant that a slot may hold
pub configured_found : (u : Universe) (n : ℕ) (p : Bits) (s : MaySlot)
    → may_hold_configured u n p s ≡ true
    → (b : ℕ) × (p b ≡ true) × ((q : Bits) → q b ≡ true → may_hold_configured u n q s ≡ true)
    × (b < variants u n)
configured_found u n p MayAbsent is = cc
configured_found u n p (MayUnpacked current last) is = cc
configured_found u n p (MayConfigured current) is =
    let f = some_below-found (variants u n) (λ b. current b && p b) is in
    let parts = and_parts _ _ f.2 in (
      f.0,
      parts.1,
      λ q passing. some_below-at (variants u n) (λ b. current b && q b) f.0 f.1
          (and_from _ _ parts.0 passing),
      f.1,
    )

hold_found : (u : Universe) (n : ℕ) (p : Bits) (s : MaySlot) → may_hold u n p s ≡ true
    → (b : ℕ) × (p b ≡ true) × ((q : Bits) → q b ≡ true → may_hold u n q s ≡ true)
hold_found u n p MayAbsent is = cc
hold_found u n p (MayUnpacked current last) is =
    let f = some_below-found (variants u n) (λ b. current b && p b) is in
    let parts = and_parts _ _ f.2 in (
      f.0,
      parts.1,
      λ q passing. some_below-at (variants u n) (λ b. current b && q b) f.0 f.1
          (and_from _ _ parts.0 passing),
    )
hold_found u n p (MayConfigured current) is =
    let f = some_below-found (variants u n) (λ b. current b && p b) is in
    let parts = and_parts _ _ f.2 in (
      f.0,
      parts.1,
      λ q passing. some_below-at (variants u n) (λ b. current b && q b) f.0 f.1
          (and_from _ _ parts.0 passing),
    )

-- nothing that is not configured surely is
not_configured : (u : Universe) (n : ℕ) (p : Bits) (s : MaySlot) → is_surely_configured s ≡ false
    → (surely_configured u n p s ≡ false) × (may_hold_configured u n p s ≡ false)
not_configured u n p MayAbsent is = (refl, refl)
not_configured u n p (MayUnpacked current last) is = (refl, refl)
not_configured u n p (MayConfigured current) is = cc

-- what surely satisfies an entry may satisfy it
may_satisfy : (u : Universe) (n : ℕ) (p : Bits) (s : MaySlot)
    → (is_surely_configured s ≡ true → may_hold_configured u n (λ b. true) s ≡ true)
    → surely_configured u n p s ≡ true → may_hold_configured u n p s ≡ true
may_satisfy u n p MayAbsent some is = cc
may_satisfy u n p (MayUnpacked current last) some is = cc
may_satisfy u n p (MayConfigured current) some is =
    let at = some_below-found (variants u n) (λ b. current b && true) (some refl) in
    let has = (and_parts (current at.0) true at.2).0 in
    some_below-at (variants u n) (λ b. current b && p b) at.0 at.1 (and_from _ _ has
    (elim (or_cases (not (current at.0)) (p at.0)
    (every_below-at (variants u n) (λ b. not (current b) || p b) at.0 at.1 is)) [
      | inl lacks ↦ absurd (both_ways _ (not-true _ lacks) has)
      | inr passes ↦ passes
    ]))

-- a name may hold a variant with an entry that passes
pub entry_passing : (u : Universe) (n b : ℕ) (e : Entry) (s : MaySlot) (p : Entry → Bool)
    → may_hold_configured u n (λ d. d == b) s ≡ true → (i : ℕ)
    → slice_get (entries u (variant n b)) i ≡ Some e → p e ≡ true
    → may_hold_configured u n (λ d. list_any p (entries u (variant n d))) s ≡ true
entry_passing u n b e s p held i has passing =
    let es = entries u (variant n b) in
    let some : list_any p es ≡ true =
    any-at p [] es i (slice_get_within es i e has)
    (ap p (get_or_from_slice_get es i e [] has) ∙ passing) in
    configured_mono u n (λ d. d == b) (λ d. list_any p (entries u (variant n d))) s
    (λ d same. ap (λ k. list_any p (entries u (variant n k))) (eqb-true d b same) ∙ some) held

-- what may be held is of a name of the universe
pub held_named : (u : Universe) (n : ℕ) (p : Bits) (s : MaySlot)
    → may_hold_configured u n p s ≡ true → n < names u
held_named u n p s held = let b = configured_found u n p s held in named u n b.0 b.3

-- a name misses an entry where one of its variants may miss one
pub missed_at : (u : Universe) (m : May) (n b : ℕ) (e : Entry) → MayMiss u m n b e
    → misses_at u m n ≡ true
missed_at u m n b e is =
    entry_passing u n b e (m.slots n) (λ x. not (surely_met u m x)) is.held is.place is.has
    (not_from_false _ is.missed)

pub at_missed : (u : Universe) (m : May) (n : ℕ) → misses_at u m n ≡ true
    → (b : ℕ) × (e : Entry) × MayMiss u m n b e
at_missed u m n is =
    let b = configured_found u n (λ d. unmet (surely_met u m) (entries u (variant n d))) (m.slots n)
    is in
    let es = entries u (variant n b.0) in
    let i = any-found (λ e. not (surely_met u m e)) [] es b.1 in (
      b.0,
      slice_index_or es i.0 [],
      record {
        held = b.2 (λ d. d == b.0) (eq-eqb b.0 b.0 refl);
        place = i.0;
        has = slice_get-get_or es i.0 [] i.1;
        missed = not-true _ i.2;
      },
    )

-- the same in another map
missed_in : (u : Universe) (m after : May) (n b : ℕ) (e : Entry) → after.slots n ≡ m.slots n
    → surely_met u m e ≡ false → MayMiss u after n b e → MayMiss u m n b e
missed_in u m after n b e same missed is = record {
  held = ap (may_hold_configured u n (λ d. d == b)) (sym same) ∙ is.held;
  place = is.place;
  has = is.has;
  missed = missed;
}

-- each surely configured name may hold something
abbrev pub HoldSome : Universe → May → Type 0
HoldSome u m = (n : ℕ) → is_surely_configured (m.slots n) ≡ true
    → may_hold_configured u n (λ b. true) (m.slots n) ≡ true

-- ---- slots that change

-- what may be missed might have been before
abbrev pub KeepsMet : Universe → (m after : May) → Type 0
KeepsMet u m after = (n b : ℕ) (e : Entry) → MayMiss u after n b e → MayMiss u m n b e

module _ (u : Universe) (m after : May) where
  met_more : ((n : ℕ) (p : Bits) → surely_configured u n p (m.slots n) ≡ true
      → surely_configured u n p (after.slots n) ≡ true)
      → (e : Entry) → surely_met u m e ≡ true → surely_met u after e ≡ true
  unfolding surely_met
  met_more more e is = some_below-mono (names u) _ _ (λ n lt. more n _) is

  -- where no configured slot goes, and a slot that changes has no entry that is not met
  met_after : ((n : ℕ) (p : Bits) → surely_configured u n p (m.slots n) ≡ true
      → surely_configured u n p (after.slots n) ≡ true)
      → ((n : ℕ) → (after.slots n ≡ m.slots n) ⊎ (misses_at u after n ≡ false))
      → KeepsMet u m after
  met_after more each n b e is = elim (each n) [
    | inl same ↦ missed_in u m after n b e same (implied _ _ (met_more more e) is.missed) is
    | inr none ↦ absurd (both_ways _ none (missed_at u after n b e is))
  ]

pub met_same : (u : Universe) (m after : May) → ((n : ℕ) → after.slots n ≡ m.slots n)
    → KeepsMet u m after
met_same u m after same =
    met_after u m after (λ n p is. ap (surely_configured u n p) (same n) ∙ is) (λ n. inl (same n))

-- ---- an unpack

module _ (u : Universe) (there : Variant → Bool) (m : May) (name : ℕ)
    (wanted : Option (Op × List ℕ)) (highest : ℕ) where
  abbrev unpacked : May
  unpacked = may_unpack u there m name wanted (Some highest)

  slot_kept : (n : ℕ) → n ≢ name → unpacked.slots n ≡ m.slots n
  slot_kept n other = rw (ne_eqb n name other) refl

  none_unpacked : (n : ℕ) → n ≡ name → misses_at u unpacked n ≡ false
  none_unpacked n same = (not_configured u n
      (λ b. unmet (surely_met u unpacked) (entries u (variant n b))) (unpacked.slots n)
      (rw (eq-eqb n name same) refl)).1

  met_once : is_surely_configured (m.slots name) ≡ false → KeepsMet u m unpacked
  met_once free = met_after u m unpacked more each
    where
      more : (n : ℕ) (p : Bits) → surely_configured u n p (m.slots n) ≡ true
          → surely_configured u n p (unpacked.slots n) ≡ true
      more n p is = elim (cases_eq n name) [
        | inl same ↦ absurd (both_ways _
            (not_configured u n p (m.slots n)
            (ap (λ k. is_surely_configured (m.slots k)) same ∙ free)).0 is)
        | inr other ↦ ap (surely_configured u n p) (slot_kept n other) ∙ is
      ]

      each : (n : ℕ) → (unpacked.slots n ≡ m.slots n) ⊎ (misses_at u unpacked n ≡ false)
      each n = elim (cases_eq n name) [
        | inl same ↦ inr (none_unpacked n same)
        | inr other ↦ inl (slot_kept n other)
      ]

  -- an entry that was met, and is not where the name is unpacked over
  lost_name : HoldSome u m → (e : Entry) → surely_met u m e ≡ true → surely_met u unpacked e ≡ false
      → may_serve u e name ≡ true
  unfolding surely_met
  lost_name hold e was gone =
      let p : ℕ → Bits = λ n b. satisfies_entry u e (variant n b) in
      let k = some_below-found (names u) (λ n. surely_configured u n (p n) (m.slots n)) was in
      elim (cases_eq k.0 name) [
        | inl same ↦
            let c = configured_found u name (p name) (m.slots name)
            (may_satisfy u name (p name) (m.slots name) (hold name)
            (subst (λ n. surely_configured u n (p n) (m.slots n) ≡ true) same k.2)) in
            some_below-at (variants u name) (p name) c.0 c.3 c.1
        | inr other ↦ absurd (both_ways _ gone (some_below-at (names u)
            (λ n. surely_configured u n (p n) (unpacked.slots n)) k.0 k.1
            (ap (surely_configured u k.0 (p k.0)) (slot_kept k.0 other) ∙ k.2)))
      ]

  met_over : HoldSome u m → (n b : ℕ) (e : Entry) → MayMiss u unpacked n b e
      → MayMiss u m n b e ⊎ (may_serve u e name ≡ true)
  met_over hold n b e is = elim (cases_eq n name) [
    | inl same ↦ absurd (both_ways _ (none_unpacked n same) (missed_at u unpacked n b e is))
    | inr other ↦ elim (cases_Bool (surely_met u m e)) [
      | inr missed ↦ inl (missed_in u m unpacked n b e (slot_kept n other) missed is)
      | inl was ↦ inr (lost_name hold e was is.missed)
    ]
  ]

pub met_unpacked : (u : Universe) (there : Variant → Bool) (m : May) (name : ℕ)
    (wanted : Option (Op × List ℕ)) (highest : Option ℕ)
    → is_surely_configured (m.slots name) ≡ false
    → KeepsMet u m (may_unpack u there m name wanted highest)
met_unpacked u there m name wanted None free = λ n b e is. is
met_unpacked u there m name wanted (Some highest) free =
    met_once u there m name wanted highest free

pub met_upgraded : (u : Universe) (there : Variant → Bool) (m : May) (name : ℕ)
    (wanted : Option (Op × List ℕ)) (highest : Option ℕ) → HoldSome u m → (n b : ℕ) (e : Entry)
    → MayMiss u (may_unpack u there m name wanted highest) n b e
    → MayMiss u m n b e ⊎ (may_serve u e name ≡ true)
met_upgraded u there m name wanted None hold n b e is = inl is
met_upgraded u there m name wanted (Some highest) hold n b e is =
    met_over u there m name wanted highest hold n b e is

-- ---- the first trap

-- where there is no trap no test holds
pub no_trap : (b : Bool) (t : Trap) (rest : List (Bool × Trap)) → first_trap ((b, t) ∷ rest) ≡ None
    → (b ≡ false) × (first_trap rest ≡ None)
unfolding first_trap
no_trap true t rest is = absurd (none-some t (sym is))
no_trap false t rest is = (refl, is)

-- no member passes
none_member : (f : ℕ → Bool) (ms : List ℕ) (n : ℕ) → list_any f ms ≡ false → member ms n ≡ true
    → f n ≡ false
none_member f ms n none is =
    let at = any-found (λ k. k == n) 0 ms is in
    implied _ _
    (λ passes. any-at f 0 ms at.0 at.1 (ap f (eqb-true (slice_index_or ms at.0 0) n at.2) ∙ passes))
    none

-- ---- a configure

module _ (u : Universe) (of : Lane) (m : May) (ms : List ℕ) where
  abbrev configured : May
  configured = may_change may_be_configured m ms

  -- what is met goes by the slots alone
  same_slots : (e : Entry)
      → surely_met u (slots_after may_be_configured m ms) e ≡ surely_met u configured e
  unfolding surely_met
  same_slots e = refl

  more_configured : (n : ℕ) (p : Bits) → surely_configured u n p (m.slots n) ≡ true
      → surely_configured u n p (configured.slots n) ≡ true
  more_configured n p = by (member ms n) (m.slots n)
    where
      by : (is : Bool) (s : MaySlot) → surely_configured u n p s ≡ true
          → surely_configured u n p (if is then may_be_configured s else s) ≡ true
      by true MayAbsent e = e
      by true (MayUnpacked current last) e = cc
      by true (MayConfigured current) e = e
      by false s e = e

  configured_hold : (n : ℕ) (p : Bits) (s : MaySlot)
      → may_hold_configured u n p (may_be_configured s) ≡ may_hold u n p s
  configured_hold n p MayAbsent = refl
  configured_hold n p (MayUnpacked current last) = refl
  configured_hold n p (MayConfigured current) = refl

  pub met_configured : first_trap (configure_risks u of m ms) ≡ None → KeepsMet u m configured
  met_configured none = met_after u m configured more_configured each
    where
      pre : some_may_member u ms m (λ v. unmet (surely_met u m) (pre_depends u v)) ≡ false
      pre = (no_trap _ _ _ (no_trap _ _ _ (no_trap _ _ _ none).1).1).0

      dep : some_may_member u ms m (λ v. unmet (surely_met_with u ms m) (depends u v)) ≡ false
      dep = (no_trap _ _ _ (no_trap _ _ _ (no_trap _ _ _ (no_trap _ _ _ none).1).1).1).0

      misses : (n : ℕ) → member ms n ≡ true
          → may_hold u n (λ b. unmet (surely_met u configured) (entries u (variant n b)))
          (m.slots n)
          ≡ true → ⊥
      misses n is some =
          let f = hold_found u n _ (m.slots n) some in
          elim (or_cases _ _ (sym (list_any-append (λ e. not (surely_met u configured e))
          (depends u (variant n f.0)) (pre_depends u (variant n f.0))) ∙ f.1)) [
            | inl in_depends ↦ both_ways _ (none_member _ ms n dep is)
                (f.2 (λ b. unmet (surely_met_with u ms m) (depends u (variant n b)))
                (unmet-after u ms m (depends u (variant n f.0))
                ∙ any-same _ _ (depends u (variant n f.0)) (λ e. ap not (same_slots e))
                ∙ in_depends))
            | inr in_pre ↦ both_ways _ (none_member _ ms n pre is)
                (f.2 (λ b. unmet (surely_met u m) (pre_depends u (variant n b)))
                (unmet_less (surely_met u m) (surely_met u configured)
                (pre_depends u (variant n f.0)) (met_more u m configured more_configured) in_pre))
          ]

      each : (n : ℕ) → (configured.slots n ≡ m.slots n) ⊎ (misses_at u configured n ≡ false)
      each n = elim (cases_Bool (member ms n)) [
        | inl is ↦ inr (ap (may_hold_configured u n
            (λ b. unmet (surely_met u configured) (entries u (variant n b))))
            (ap (λ t. if t then may_be_configured (m.slots n) else m.slots n) is)
            ∙ configured_hold n _ (m.slots n)
            ∙ elim (cases_Bool (may_hold u n
            (λ b. unmet (surely_met u configured) (entries u (variant n b))) (m.slots n))) [
              | inl some ↦ absurd (misses n is some)
              | inr free ↦ free
            ])
        | inr other ↦ inl (ap (λ t. if t then may_be_configured (m.slots n) else m.slots n) other)
      ]

-- ---- a deconfigure and a remove

module _ (u : Universe) (m : May) (ms : List ℕ) (f : MaySlot → MaySlot)
    (off : (s : MaySlot) → is_surely_configured (f s) ≡ false) (hold : HoldSome u m)
    (not_needed : may_be_needed u ms m ≡ false) where
  abbrev withdrawn : May
  withdrawn = may_change f m ms

  slot_out : (n : ℕ) → member ms n ≡ false → withdrawn.slots n ≡ m.slots n
  slot_out n out = ap (λ t. if t then f (m.slots n) else m.slots n) out

  slot_in : (n : ℕ) → member ms n ≡ true → withdrawn.slots n ≡ f (m.slots n)
  slot_in n is = ap (λ t. if t then f (m.slots n) else m.slots n) is

  -- what is met no more was met by a member, and is met by no other name
  outside_stays : (e : Entry) → surely_met_outside u ms m e ≡ true → surely_met u withdrawn e ≡ true
  unfolding surely_met surely_met_outside
  outside_stays e is =
      some_below-mono (names u) _ _
      (λ n lt both. let parts = and_parts _ _ both in
      ap (surely_configured u n (λ b. satisfies_entry u e (variant n b)))
      (slot_out n (not-true _ parts.0)) ∙ parts.1) is

  lost : (e : Entry) → surely_met u m e ≡ true → surely_met u withdrawn e ≡ false
      → may_meet u ms m e ≡ true
  unfolding surely_met may_meet
  lost e was gone =
      let p : ℕ → Bits = λ n b. satisfies_entry u e (variant n b) in
      let k = some_below-found (names u) (λ n. surely_configured u n (p n) (m.slots n)) was in
      elim (cases_Bool (member ms k.0)) [
        | inl is ↦ some_below-at (names u)
            (λ n. member ms n && may_hold_configured u n (p n) (m.slots n)) k.0 k.1
            (and_from _ _ is (may_satisfy u k.0 (p k.0) (m.slots k.0) (hold k.0) k.2))
        | inr out ↦ absurd (both_ways _ gone (some_below-at (names u)
            (λ n. surely_configured u n (p n) (withdrawn.slots n)) k.0 k.1
            (ap (surely_configured u k.0 (p k.0)) (slot_out k.0 out) ∙ k.2)))
      ]

  needed : (n b : ℕ) (e : Entry) → MayMiss u withdrawn n b e → member ms n ≡ false
      → surely_met u m e ≡ true → may_be_needed u ms m ≡ true
  unfolding may_be_needed
  needed n b e is out was =
      let needs : Entry → Bool = λ c. may_meet u ms m c && not (surely_met_outside u ms m c) in
      let held = ap (may_hold_configured u n (λ d. d == b)) (sym (slot_out n out)) ∙ is.held in
      some_below-at (names u)
      (λ k. not (member ms k)
      && may_hold_configured u k (λ d. list_any needs (entries u (variant k d))) (m.slots k)) n
      (held_named u n (λ d. d == b) (m.slots n) held)
      (and_from _ _ (not_from_false _ out)
      (entry_passing u n b e (m.slots n) needs held is.place is.has
      (and_from _ _ (lost e was is.missed)
      (not_from_false _ (implied _ _ (outside_stays e) is.missed)))))

  pub met_withdrawn : KeepsMet u m withdrawn
  met_withdrawn n b e is = elim (cases_Bool (member ms n)) [
    | inl among ↦ absurd (both_ways _
        (not_configured u n (λ d. d == b) (withdrawn.slots n)
        (ap is_surely_configured (slot_in n among) ∙ off (m.slots n))).1 is.held)
    | inr out ↦ elim (cases_Bool (surely_met u m e)) [
      | inr missed ↦ missed_in u m withdrawn n b e (slot_out n out) missed is
      | inl was ↦ absurd (both_ways _ not_needed (needed n b e is out was))
    ]
  ]
