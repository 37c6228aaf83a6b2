-- What is unpacked, and what is configured, by the words.
use Rattle.std.proofs.Common.{◌≡◌, ◌↔◌, ◌⊎◌, inl, inr, ℕ, ◌<◌, Bool, true, false, not, ◌&&◌, ◌||◌, ◌==◌, List, slice_index, Option, Some, None, [], ◌∷◌, Ok, refl, sym, ap, subst, ◌∙◌, arith}
use Rattle.std.specs.Cmp.{both_ways as same_tests}
use Rattle.std.specs.List.{list_any}
use Rattle.std.proofs.lemmas.List.Folds.{list_any-append}
use Rattle.std.proofs.lemmas.Bool.{cases_Bool, cases_lt, and_from, or_left, or_right, not-true, not_from_false, both_ways, eq-eqb, eqb-true}
use Rattle.std.proofs.lemmas.Grind.{same_number_lists}
use Rattle.std.proofs.lemmas.List.{get_or_past}
use Rattle.clause_kernel.specs.Rows.{word_has}
use Rattle.clause_kernel.proofs.Words.{some_bit}
use Rattle.deb_relation.specs.Relations.{Entry}
use Rattle.deb_relation.specs.declared.operator.Op.{Op}
use Rattle.farm_model.specs.Common.{some_below, member, unmet, entries, Universe, Recipe, first_trap, variant, names, variants, recipe}
use Rattle.farm_model.specs.declared.types.Variant.{Variant}
use Rattle.farm_model.proofs.BelowLaws.{some_below-or, some_below-at, some_below-found, some_below-same}
use Rattle.plan_model.specs.Common.{MaySlot, MayAbsent, MayUnpacked, MayConfigured, May, may_hold, may_hold_configured, surely_met, is_surely_unpacked, is_surely_configured, may_be_configured, may_be_deconfigured, may_unpack, may_change, may_after, Lane, may_be_unsettled, build_risks, risk, newest}
use Rattle.plan_model.specs.declared.instructions.Instruction.{Instruction}
use Rattle.plan_model.specs.declared.instructions.Instruction.TheVariants.{Unpack, Configure, Deconfigure, Remove, Build, Publish}
use Rattle.may_rows.specs.Met.{misses_at, some_misses, MayMiss, may_serve, Doubt, AreDoubts, settled, upgrades, IsDoubted, IsDoubtAfter}
use Rattle.may_rows.specs.Walk.{Answers}
use Rattle.may_rows.specs.Words.{Words, slot_of, may_of, AreOfName, AreWords}
use Rattle.may_rows.proofs.ByNumber.{any-at, any-found}
use Rattle.may_rows.proofs.Bridges.{configured-is, ready_known}
use Rattle.may_rows.proofs.MetAfter.{HoldSome, KeepsMet, implied, held_named, missed_at, no_trap, met_same, met_unpacked, met_upgraded, met_configured, met_withdrawn}

-- ---- words of one name

configured_ready : (here ready last : ℕ) → is_surely_configured (slot_of here ready last) ≡ true
    → (ready == 0) ≡ false
configured_ready here ready last is = elim (cases_Bool (ready == 0)) [
  | inl none ↦ absurd (both_ways _ (unready (cases_Bool (here == 0)) none) is)
  | inr some ↦ some
]
  where
    unready : ((here == 0) ≡ true) ⊎ ((here == 0) ≡ false) → (ready == 0) ≡ true
        → is_surely_configured (slot_of here ready last) ≡ false
    unready (inl z) none = rw z refl
    unready (inr h) none = rw (h, none) refl

pub hold_some : (u : Universe) (w : Words) → AreWords u w → HoldSome u (may_of w)
hold_some u w are n is =
    let ready = slice_index w.ready n in
    let bit =
    some_bit ready
    (λ z. both_ways _ (configured_ready (slice_index w.here n) ready (slice_index w.last n) is)
    (eq-eqb ready 0 z)) in
    configured-is u n (λ b. true) _ _ _ _ (are.each n)
    ∙ some_below-at (variants u n) (λ b. word_has ready b && true) bit.0
    (ready_known u n (λ b. true) _ _ _ _ (are.each n) bit.0 bit.1)
    (and_from _ _ bit.1 refl)

unpacked-is : (count here ready last both : ℕ) → AreOfName count here ready last both
    → is_surely_unpacked (slot_of here ready last) ≡ not (here == ready)
unpacked-is count here ready last both is = by (cases_Bool (here == 0)) (cases_Bool (ready == 0))
    is.phase
  where
    by : ((here == 0) ≡ true) ⊎ ((here == 0) ≡ false)
        → ((ready == 0) ≡ true) ⊎ ((ready == 0) ≡ false)
        → (ready ≡ 0) ⊎ ((ready ≡ here) × (last ≡ here))
        → is_surely_unpacked (slot_of here ready last) ≡ not (here == ready)
    by (inl z) r (inl none) =
        rw (z, eq-eqb here ready (eqb-true here 0 z ∙ sym none)) refl
    by (inl z) r (inr same) = rw (z, eq-eqb here ready (sym same.0)) refl
    by (inr h) (inl none) c =
        rw (h, none) (sym (ap (λ k. not (here == k)) (eqb-true ready 0 none) ∙ ap not h))
    by (inr h) (inr some) (inl none) = absurd (both_ways _ some (eq-eqb ready 0 none))
    by (inr h) (inr some) (inr same) = rw (h, some, eq-eqb here ready (sym same.0)) refl

-- ---- all names

module _ (u : Universe) (w : Words) (are : AreWords u w) where
  abbrev differs : ℕ → Bool
  differs n = not (slice_index w.here n == slice_index w.ready n)

  abbrev unpacked : ℕ → Bool
  unpacked n = is_surely_unpacked ((may_of w).slots n)

  -- nothing is unpacked where the words of what is present and of what is configured are the same
  pub any_unpacked-is : (t : Bool) → (t ≡ true) ↔ (w.here ≡ w.ready)
      → not t ≡ some_below (names u) (λ n. is_surely_unpacked ((may_of w).slots n))
  any_unpacked-is t told =
      same_tests _ _
      (λ other. elim (cases_Bool (some_below (names u) unpacked)) [
        | inl some ↦ some
        | inr none ↦ absurd (both_ways _ (not-true _ other) (told.1 (equal none)))
      ])
      (λ some. let at = some_below-found (names u) unpacked some in
      not_from_false _ (elim (cases_Bool t) [
        | inr other ↦ other
        | inl equal_words ↦ absurd (both_ways _
            (not-true _ (sym (unpacked-is _ _ _ _ _ (are.each at.0)) ∙ at.2))
            (eq-eqb _ _ (ap (λ ws. slice_index ws at.0) (told.0 equal_words))))
      ]))
    where
      equal : some_below (names u) unpacked ≡ false → w.here ≡ w.ready
      equal none =
          same_number_lists w.here w.ready (are.here_long ∙ sym are.ready_long)
          (λ k lt. eqb-true _ _ (elim (cases_Bool (slice_index w.here k == slice_index w.ready k)) [
            | inl same ↦ same
            | inr other ↦ absurd (both_ways _ none (some_below-at (names u) unpacked k
                (omega (arith, lt, are.here_long))
                (unpacked-is _ _ _ _ _ (are.each k) ∙ not_from_false _ other)))
          ]))

  -- a name that is unpacked has a word
  unpacked_named : (n : ℕ) → unpacked n ≡ true → n < names u
  unpacked_named n is = elim (cases_lt n (names u)) [
    | inl lt ↦ lt
    | inr ge ↦
        let none : slice_index w.here n ≡ 0 =
        get_or_past w.here n 0 (omega (arith, ge, are.here_long)) in
        absurd (both_ways _ (absent none) is)
  ]
    where
      absent : slice_index w.here n ≡ 0 → unpacked n ≡ false
      absent none =
          ap (λ here. is_surely_unpacked (slot_of here (slice_index w.ready n)
          (slice_index w.last n))) none

  -- what is unpacked is among the names that are noted
  pub unpacked_among-is : (d : Doubt) → AreDoubts u (may_of w) d → d.known ≡ true
      → list_any (λ k. is_surely_unpacked ((may_of w).slots k)) d.loose
      ≡ some_below (names u) (λ n. is_surely_unpacked ((may_of w).slots n))
  unpacked_among-is d doubts known =
      same_tests _ _
      (λ some. let at = any-found unpacked 0 d.loose some in
      let k = slice_index d.loose at.0 in
      some_below-at (names u) unpacked k (unpacked_named k at.2) at.2)
      (λ some. let n = some_below-found (names u) unpacked some in
      let at = any-found (λ m. m == n.0) 0 d.loose (doubts.loose known n.0 n.1 n.2) in
      any-at unpacked 0 d.loose at.0 at.1
      (ap unpacked (eqb-true _ _ at.2) ∙ n.2))

-- ---- the test of a build

pub unsettled-is : (u : Universe) (m : May)
    → may_be_unsettled u m
    ≡ (some_below (names u) (λ n. is_surely_unpacked (m.slots n)) || some_misses u m)
unfolding may_be_unsettled
unsettled-is u m =
    some_below-same (names u) _ _
    (λ n lt. by (λ b. unmet (surely_met u m) (entries u (variant n b))) n (m.slots n))
    ∙ some_below-or (names u) (λ n. is_surely_unpacked (m.slots n)) (misses_at u m)
  where
    by : (p : ℕ → Bool) (n : ℕ) (s : MaySlot)
        → (is_surely_unpacked s || may_hold u n p s)
        ≡ (is_surely_unpacked s || may_hold_configured u n p s)
    by p n MayAbsent = refl
    by p n (MayUnpacked current last) = refl
    by p n (MayConfigured current) = refl

-- some name misses an entry where one of its variants may miss one
pub some_missed : (u : Universe) (m : May) (n b : ℕ) (e : Entry) → MayMiss u m n b e
    → some_misses u m ≡ true
some_missed u m n b e is =
    some_below-at (names u) (misses_at u m) n
    (held_named u n (λ d. d == b) (m.slots n) is.held) (missed_at u m n b e is)

-- ---- an instruction

-- a build is safe where nothing misses an entry
built_met : (u : Universe) (of : Lane) (m : May) (r : Recipe)
    → first_trap (build_risks u of m r) ≡ None → some_misses u m ≡ false
built_met u of m r none =
    let told = (no_trap _ _ _ (no_trap _ _ _ none).1).0 in
    implied _ _ (λ some. unsettled-is u m ∙ or_right
    (some_below (names u) (λ n. is_surely_unpacked (m.slots n))) _ some) told

-- a build is safe where nothing is unpacked
built_configured : (u : Universe) (of : Lane) (m : May) (r : Recipe)
    → first_trap (build_risks u of m r) ≡ None
    → some_below (names u) (λ n. is_surely_unpacked (m.slots n)) ≡ false
built_configured u of m r none =
    let told = (no_trap _ _ _ (no_trap _ _ _ none).1).0 in
    implied _ _ (λ some. unsettled-is u m ∙ or_left _ (some_misses u m) some) told

-- nothing more is unpacked
abbrev KeepsConfigured : (m after : May) → Type 0
KeepsConfigured m after =
    (n : ℕ) → is_surely_unpacked (after.slots n) ≡ true → is_surely_unpacked (m.slots n) ≡ true

-- where members are changed so that none is unpacked
changed_off : (f : MaySlot → MaySlot) (m : May) (members : List ℕ)
    → ((s : MaySlot) → is_surely_unpacked (f s) ≡ false)
    → KeepsConfigured m (may_change f m members)
changed_off f m members off n is = elim (cases_Bool (member members n)) [
  | inl inside ↦ absurd (both_ways _ (off (m.slots n)) (rw inside at is))
  | inr outside ↦ rw outside at is
]

-- what is in doubt stays so, where nothing more misses an entry or is unpacked
doubts_kept : (u : Universe) (m after : May) (d new : Doubt) → KeepsMet u m after
    → KeepsConfigured m after → AreDoubts u m d → new ≡ d → AreDoubts u after new
doubts_kept u m after d new keeps configured are same =
    subst (AreDoubts u after) (sym same) (record {
      among = λ known n b e is. are.among known n b e (keeps n b e is);
      loose = λ known n lt is. are.loose known n lt (configured n is);
    })

-- further names
doubts_more : (u : Universe) (m after : May) (old new : Doubt) (over loose : List ℕ)
    → ((n b : ℕ) (e : Entry) → MayMiss u after n b e
    → MayMiss u m n b e ⊎ (list_any (may_serve u e) over ≡ true))
    → ((n : ℕ) → is_surely_unpacked (after.slots n) ≡ true
    → (is_surely_unpacked (m.slots n) ≡ true) ⊎ (member loose n ≡ true))
    → AreDoubts u m old → IsDoubted old over loose new → AreDoubts u after new
doubts_more u m after old new over loose either loosened are more = record {
  among = λ known n b e is.
      ap (list_any (may_serve u e)) (more.over known)
      ∙ (list_any-append (may_serve u e) old.over over
      ∙ elim (either n b e is) [
        | inl before ↦ or_left _ _ (are.among (more.known known) n b e before)
        | inr served ↦ or_right (list_any (may_serve u e) old.over) _ served
      ]);
  loose = λ known n lt is.
      ap (λ names. member names n) (more.loose known)
      ∙ (list_any-append (λ k. k == n) old.loose loose
      ∙ elim (loosened n is) [
        | inl before ↦ or_left _ _ (are.loose (more.known known) n lt before)
        | inr listed ↦ or_right (member old.loose n) _ listed
      ]);
}

doubts_settled : (u : Universe) (m after : May) (new : Doubt) → KeepsMet u m after
    → KeepsConfigured m after → some_misses u m ≡ false
    → some_below (names u) (λ n. is_surely_unpacked (m.slots n)) ≡ false → new ≡ settled
    → AreDoubts u after new
doubts_settled u m after new keeps configured met none same =
    subst (AreDoubts u after) (sym same) (record {
      among = λ known n b e is. absurd (both_ways _ met
          (some_missed u m n b e (keeps n b e is)));
      loose = λ known n lt is. absurd (both_ways _ none
          (some_below-at (names u) (λ n. is_surely_unpacked (m.slots n)) n lt (configured n is)));
    })

-- an unpack leaves no other name unpacked
opened : (u : Universe) (there : Variant → Bool) (m : May) (name : ℕ)
    (wanted : Option (Op × List ℕ)) (highest : Option ℕ) (n : ℕ)
    → is_surely_unpacked ((may_unpack u there m name wanted highest).slots n) ≡ true
    → (is_surely_unpacked (m.slots n) ≡ true) ⊎ (member (name ∷ []) n ≡ true)
opened u there m name wanted None n is = inl is
opened u there m name wanted (Some highest) n is = elim (cases_Bool (n == name)) [
  | inl own ↦ inr (or_left _ false (eq-eqb name n (sym (eqb-true n name own))))
  | inr other ↦ inl (rw other at is)
]

-- what is in doubt behind the instructions of a safe step
pub doubts_step : (u : Universe) (of : Lane) (known there : Variant → Bool) (m : May)
    → HoldSome u m → (old new : Doubt) → AreDoubts u m old → (x : Instruction)
    → risk u of known there m x ≡ None → (upgraded : Bool) → upgraded ≡ upgrades m x
    → IsDoubtAfter upgraded x old new → AreDoubts u (may_after u known there m x) new
doubts_step u of known there m hold old new are (Unpack name wanted) none true same after =
    let highest = newest u known name wanted in
    doubts_more u m _ old new (name ∷ []) (name ∷ [])
    (λ n b e missing. elim (met_upgraded u there m name wanted highest hold n b e missing) [
      | inl before ↦ inl before
      | inr served ↦ inr (or_left _ false served)
    ])
    (opened u there m name wanted highest) are after
doubts_step u of known there m hold old new are (Unpack name wanted) none false same after =
    let highest = newest u known name wanted in
    doubts_more u m _ old new [] (name ∷ [])
    (λ n b e missing. inl (met_unpacked u there m name wanted highest (sym same) n b e missing))
    (opened u there m name wanted highest) are after
doubts_step u of known there m hold old new are (Configure members) none upgraded same after =
    doubts_kept u m _ old new (met_configured u of m members none)
    (changed_off may_be_configured m members off) are after
  where
    off : (s : MaySlot) → is_surely_unpacked (may_be_configured s) ≡ false
    off MayAbsent = refl
    off (MayUnpacked current last) = refl
    off (MayConfigured current) = refl
doubts_step u of known there m hold old new are (Deconfigure members) none upgraded same after =
    doubts_more u m _ old new [] members
    (λ n b e missing. inl (met_withdrawn u m members may_be_deconfigured off hold
    (no_trap _ _ _ (no_trap _ _ _ (no_trap _ _ _ none).1).1).0 n b e missing))
    (λ n is. elim (cases_Bool (member members n)) [
      | inl inside ↦ inr inside
      | inr outside ↦ inl (rw outside at is)
    ])
    are after
  where
    off : (s : MaySlot) → is_surely_configured (may_be_deconfigured s) ≡ false
    off MayAbsent = refl
    off (MayUnpacked current last) = refl
    off (MayConfigured current) = refl
doubts_step u of known there m hold old new are (Remove members) none upgraded same after =
    doubts_kept u m _ old new
    (met_withdrawn u m members (λ s. MayAbsent) (λ s. refl) hold
    (no_trap _ _ _ (no_trap _ _ _ (no_trap _ _ _ (no_trap _ _ _ none).1).1).1).0)
    (changed_off (λ s. MayAbsent) m members (λ s. refl)) are after
doubts_step u of known there m hold old new are (Build r) none upgraded same after =
    doubts_settled u m _ new (met_same u m _ (λ n. refl)) (λ n is. is)
    (built_met u of m (recipe u r) none) (built_configured u of m (recipe u r) none) after
doubts_step u of known there m hold old new are (Publish r) none upgraded same after =
    doubts_kept u m _ old new (met_same u m _ (λ n. refl)) (λ n is. is) are after
doubts_step u of known there m hold old new are _ none upgraded same after =
    doubts_kept u m _ old new (λ n b e missing. missing) (λ n is. is) are after

-- what is answered to it
pub doubts_answer : (u : Universe) (of : Lane) (known there : Variant → Bool) (m : May)
    → HoldSome u m → (old new : Doubt) → AreDoubts u m old → (x : Instruction)
    → (next : May) → Answers u of known there m x next (Ok tt)
    → (upgraded : Bool) → upgraded ≡ upgrades m x → IsDoubtAfter upgraded x old new
    → AreDoubts u next new
doubts_answer u of known there m hold old new are x next answer upgraded same after =
    subst (λ map. AreDoubts u map new) answer.1
    (doubts_step u of known there m hold old new are x answer.0 upgraded same after)
