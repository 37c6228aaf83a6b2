-- A chroot that a may map allows: each trap of an instruction is bounded by its risk.
use Rattle.std.proofs.Common.{◌≡◌, ℕ, ◌+◌, ◌<◌, ◌≤◌, Bool, true, false, not, ◌&&◌, ◌==◌, inl, inr, List, [], ◌∷◌, length, Some, None, refl, sym, ap, ◌∙◌, arith, le_refl}
use Rattle.std.specs.Prelude.{nat_lt}
use Rattle.std.specs.List.{list_any}
use Rattle.std.proofs.lemmas.Option.{none-some}
use Rattle.std.proofs.lemmas.Bool.{not-true, both_ways, cond-true, cond-false, and_parts, and_from, cases_Bool, lt-ltb, ltb-true, false_from_ne_true}
use Rattle.deb_relation.specs.Relations.{Entry}
use Rattle.farm_model.specs.Common.{some_below, sum_below, Universe, Recipe, variant, names, variants, size, essential, pre_depends, depends, satisfies_entry, satisfies_any, conflict, breaks, Chroot, slot, first_trap, holds_configured, size_in, used, member, meets_entry, met_with, pre_met, unmet, entries, unsettled, unpack_traps, changed, some_member, configure_traps, still_needed, deconfigured_slot, deconfigure_traps, remove_traps, build_traps}
use Rattle.farm_model.specs.declared.types.Variant.{Variant}
use Rattle.farm_model.specs.declared.types.Trap.{Trap}
use Rattle.farm_model.specs.declared.types.Trap.TheVariants.{OverBudget}
use Rattle.farm_model.specs.declared.types.Slot.{Slot}
use Rattle.farm_model.specs.declared.types.Slot.TheVariants.{Absent}
use Rattle.farm_model.proofs.BelowLaws.{some_below-at, some_below-found, sum_below-mono, greatest_below-at}
use Rattle.plan_model.specs.Common.{Lane, capacity, unpack_cost, Bits, May, may_hold_configured, surely_configured, surely_met, surely_met_with, surely_pre_met, may_size, may_use, Allows, AllowsAll, greatest_cost, unpack_risks, some_may_member, configure_risks, surely_met_outside, may_meet, may_be_needed, deconfigure_risks, remove_risks, may_be_unsettled, build_risks}
use Rattle.farm_laws.proofs.Slots.{list_any-mono, not-mono, and-mono, or-mono, some_of-at, holds-may, holds_configured-may, surely_configured-holds, surely_holds-holds, surely_pre_meets-meets, size_in-may, is_unpacked-may, is_configured-may, is_present-may, holds-mono, holds_configured-mono}
use Rattle.farm_model.proofs.ChangedLaws.{slot-changed, length-changed}

-- each test of the first list is bounded by that of the second
pub data Covers : List (Bool × Trap) → List (Bool × Trap) → Type 0 where
  nil : Covers [] []
  cons : {a b : Bool} {s t : Trap} {traps risks : List (Bool × Trap)} → (a ≡ true → b ≡ true)
      → Covers traps risks → Covers ((a, s) ∷ traps) ((b, t) ∷ risks)

pub no_trap : {traps risks : List (Bool × Trap)} → Covers traps risks → first_trap risks ≡ None
    → first_trap traps ≡ None
unfolding first_trap
no_trap nil e = refl
no_trap (cons {a = a} {b = b} {s = s} {t = t} {traps = traps} {risks = risks} h hs) e =
    elim (cases_Bool b) [
      | inl risky ↦ absurd (none-some t (sym e ∙ cond-true b (Some t) (first_trap risks) risky))
      | inr safe ↦ cond-false a (Some s) (first_trap traps)
          (false_from_ne_true a (λ k. both_ways b safe (h k)))
          ∙ no_trap hs (sym (cond-false b (Some t) (first_trap risks) safe) ∙ e)
    ]

-- a sum over a limit
pub over-may : (limit a b x y : ℕ) → a ≤ b → x ≤ y → nat_lt limit (a + x) ≡ true
    → nat_lt limit (b + y) ≡ true
over-may limit a b x y h k e = let lt = ltb-true limit (a + x) e in
    lt-ltb limit (b + y) (omega arith)

-- an entry is not met where less is met
pub unmet-may : (meets surely : Entry → Bool) (es : List Entry)
    → ((e : Entry) → surely e ≡ true → meets e ≡ true) → unmet meets es ≡ true
    → unmet surely es ≡ true
unmet-may meets surely es h = list_any-mono _ _ es (λ e. not-mono (meets e) (surely e) (h e))

-- what a name outside the set meets is met after the change too
met-changed : (u : Universe) (f : Slot → Slot) → f Absent ≡ Absent
    → (c : Chroot) (members : List ℕ) (e : Entry) (n : ℕ) → n < length c → member members n ≡ false
    → holds_configured (λ b. satisfies_entry u e (variant n b)) (slot c n) ≡ true
    → meets_entry u (changed f c members) e ≡ true
unfolding meets_entry
met-changed u f none c members e n lt out h =
    let same : slot (changed f c members) n ≡ slot c n = slot-changed f none c members n
    ∙ cond-false (member members n) (f (slot c n)) (slot c n) out in
    some_below-at (length (changed f c members))
    (λ k. holds_configured (λ b. satisfies_entry u e (variant k b))
    (slot (changed f c members) k)) n (omega (arith, length-changed f c members)) (rw same h)

module _ (u : Universe) (m : May) (c : Chroot) (al : AllowsAll u m c) where
  -- what some slot passes, some name of the map may pass, and the other way round
  slots-may : (p q : ℕ → Bool) →
      ((n : ℕ) → Allows (variants u n) (m.slots n) (slot c n) → p n ≡ true → q n ≡ true)
      → some_below (length c) p ≡ true → some_below (names u) q ≡ true
  slots-may p q h e =
      let r = some_below-found (length c) p e in
      let lt : r.0 < names u = omega (arith, r.1, al.long) in
      some_below-at (names u) q r.0 lt (h r.0 (al.each r.0) r.2)

  slots-sure : (q p : ℕ → Bool) →
      ((n : ℕ) → Allows (variants u n) (m.slots n) (slot c n) → q n ≡ true → p n ≡ true)
      → some_below (names u) q ≡ true → some_below (length c) p ≡ true
  slots-sure q p h e =
      let r = some_below-found (names u) q e in
      some_below-at (length c) p r.0 (omega (arith, r.1, al.long)) (h r.0 (al.each r.0) r.2)

  met_sound : (e : Entry) → surely_met u m e ≡ true → meets_entry u c e ≡ true
  unfolding surely_met meets_entry
  met_sound e = slots-sure _ _ (λ n a. surely_configured-holds u n
      (λ b. satisfies_entry u e (variant n b)) a)

  met_with_sound : (members : List ℕ) (e : Entry) → surely_met_with u members m e ≡ true
      → met_with u members c e ≡ true
  unfolding surely_met_with met_with
  met_with_sound members e =
      slots-sure _ _
      (λ n a. or-mono _ _ _ _ (surely_configured-holds u n
      (λ b. satisfies_entry u e (variant n b)) a)
      (and-mono (member members n) _ _
      (surely_holds-holds u n (λ b. satisfies_entry u e (variant n b)) a)))

  pre_met_sound : (name : ℕ) (e : Entry) → surely_pre_met u name m e ≡ true
      → pre_met u name c e ≡ true
  unfolding surely_pre_met pre_met
  pre_met_sound name e = slots-sure _ _
      (λ n a. and-mono (not (n == name)) _ _ (surely_pre_meets-meets u n e a))

  use_sound : used u c ≤ may_use u m
  unfolding used may_use
  use_sound =
      let sums = sum_below-mono (names u) (λ n. size_in u n (slot c n))
      (λ n. may_size u n (m.slots n)) (λ n lt. size_in-may u n (al.each n)) in
      let long : sum_below (length c) (λ n. size_in u n (slot c n))
      ≡ sum_below (names u) (λ n. size_in u n (slot c n)) =
      ap (λ k. sum_below k (λ n. size_in u n (slot c n))) al.long in
      omega (arith, sums, long)

  -- an unpack of one of the candidates
  pub unpack_covers : (of : Lane) (spent name : ℕ) (set : Bits) (b : ℕ) → spent ≤ m.cost
      → b < variants u name → set b ≡ true
      → Covers ((
        nat_lt of.budget (spent + unpack_cost u (variant name b)),
        OverBudget,
      ) ∷ unpack_traps u (capacity u of) c (variant name b))
      (unpack_risks u of m name set)
  unpack_covers of spent name set b le lt has =
      let great = greatest_below-at (variants u name) set (λ k. size u (variant name k)) b lt has in
      let cost : unpack_cost u (variant name b) ≤ greatest_cost u name set = omega (arith, great) in
      let of_it = λ (p : Bits) (h : p b ≡ true). some_of-at u name set p b lt has h in
      cons (over-may of.budget _ _ _ _ le cost)
      (cons (λ e. of_it _ (unmet-may (pre_met u name c) (surely_pre_met u name m)
      (pre_depends u (variant name b)) (pre_met_sound name) e))
      (cons (λ e. of_it _ (slots-may _ _
      (λ n a. and-mono (not (n == name)) _ _
      (holds-may u n (λ k. conflict u (variant name b) (variant n k)) a)) e))
      (cons (λ e. of_it _ (slots-may _ _
      (λ n a. and-mono (not (n == name)) _ _
      (holds_configured-may u n (λ k. breaks u (variant name b) (variant n k)) a)) e))
      (cons (over-may (capacity u of) _ _ _ _ use_sound great) nil))))

  -- some member of the set, in the chroot and in the map
  members-may : (members : List ℕ) (p q : Variant → Bool)
      → ((v : Variant) → p v ≡ true → q v ≡ true) → some_member members c p ≡ true
      → some_may_member u members m q ≡ true
  members-may members p q h =
      list_any-mono _ _ members (λ k e. holds-may u k (λ b. q (variant k b)) (al.each k)
      (holds-mono (λ b. p (variant k b)) (λ b. q (variant k b)) (slot c k)
      (λ b. h (variant k b)) e))

  pub configure_covers : (of : Lane) (spent : ℕ) (members : List ℕ) → spent ≤ m.cost
      → Covers ((
        nat_lt of.budget (spent + length members),
        OverBudget,
      ) ∷ configure_traps u c members) (configure_risks u of m members)
  configure_covers of spent members le =
      cons (over-may of.budget _ _ _ _ le (le_refl _))
      (cons (list_any-mono _ _ members (λ k e. ap not (sym (is_unpacked-may (al.each k))) ∙ e))
      (cons (members-may members _ _
      (λ v e. unmet-may (meets_entry u c) (surely_met u m) (pre_depends u v) met_sound e))
      (cons (members-may members _ _
      (λ v e. unmet-may (met_with u members c) (surely_met_with u members m) (depends u v)
      (met_with_sound members) e))
      (cons (members-may members _ _
      (λ v e. slots-may _ _ (λ n a. and-mono (not (n == v.name)) _ _
      (holds-may u n (λ b. breaks u (variant n b) v) a)) e)) nil))))

  unsettled_sound : unsettled u c ≡ true → may_be_unsettled u m ≡ true
  unfolding unsettled may_be_unsettled
  unsettled_sound =
      slots-may _ _
      (λ n a. or-mono _ _ _ _ (λ e. sym (is_unpacked-may a) ∙ e)
      (λ e. holds-may u n _ a (holds-mono _ _ (slot c n)
      (λ b. unmet-may (meets_entry u c) (surely_met u m) (entries u (variant n b)) met_sound) e)))

  pub build_covers : (of : Lane) (spent : ℕ) (r : Recipe) → spent ≤ m.cost
      → Covers ((nat_lt of.budget (spent + r.steps), OverBudget) ∷ build_traps u
      (capacity u of) c r) (build_risks u of m r)
  build_covers of spent r le =
      cons (over-may of.budget _ _ _ _ le (le_refl _))
      (cons unsettled_sound
      (cons (unmet-may (meets_entry u c) (surely_met u m) r.needs met_sound)
      (cons (slots-may _ _ (λ n a. holds-may u n (λ b. satisfies_any u r.clashes (variant n b)) a))
      (cons (over-may (capacity u of) _ _ _ _ use_sound (le_refl _)) nil))))

  -- an entry that is met before and not after is one that a member may meet, and no other surely
  -- does
  needed_entry : (g : Slot → Slot) → g Absent ≡ Absent → (members : List ℕ) (e : Entry)
      → (meets_entry u c e && not (meets_entry u (changed g c members) e)) ≡ true
      → (may_meet u members m e && not (surely_met_outside u members m e)) ≡ true
  unfolding meets_entry may_meet surely_met_outside
  needed_entry g none members e h =
      let parts = and_parts (meets_entry u c e) _ h in
      let found = some_below-found (length c)
      (λ n. holds_configured (λ b. satisfies_entry u e (variant n b)) (slot c n)) parts.0 in
      let gone = not-true (meets_entry u (changed g c members) e) parts.1 in
      let inside : member members found.0 ≡ true = elim (cases_Bool (member members found.0)) [
        | inl it ↦ it
        | inr out ↦ absurd (both_ways (meets_entry u (changed g c members) e) gone
            (met-changed u g none c members e found.0 found.1 out found.2))
      ] in
      and_from _ _
      (some_below-at (names u) (λ n. member members n
      && may_hold_configured u n (λ b. satisfies_entry u e (variant n b)) (m.slots n)) found.0
      (omega (arith, found.1, al.long))
      (and_from _ _ inside (holds_configured-may u found.0
      (λ b. satisfies_entry u e (variant found.0 b)) (al.each found.0) found.2)))
      (not-mono (meets_entry u (changed g c members) e) (surely_met_outside u members m e)
      (outside g none members e) parts.1)
    where
      outside : (g : Slot → Slot) → g Absent ≡ Absent → (members : List ℕ) (e : Entry)
          → surely_met_outside u members m e ≡ true → meets_entry u (changed g c members) e ≡ true
      outside g none members e h =
          let r = some_below-found (names u)
          (λ n. not (member members n) && surely_configured u n
          (λ b. satisfies_entry u e (variant n b)) (m.slots n)) h in
          let parts = and_parts (not (member members r.0)) _ r.2 in
          met-changed u g none c members e r.0 (omega (arith, r.1, al.long))
          (not-true (member members r.0) parts.0)
          (surely_configured-holds u r.0 (λ b. satisfies_entry u e (variant r.0 b))
          (al.each r.0) parts.1)

  needed_sound : (g : Slot → Slot) → g Absent ≡ Absent → (members : List ℕ)
      → still_needed u members c (changed g c members) ≡ true → may_be_needed u members m ≡ true
  unfolding still_needed may_be_needed
  needed_sound g none members =
      slots-may _ _
      (λ n a. and-mono (not (member members n)) _ _
      (λ h. holds_configured-may u n
      (λ b. list_any (λ e. may_meet u members m e && not (surely_met_outside u members m e))
      (entries u (variant n b))) a
      (holds_configured-mono _ _ (slot c n)
      (λ b. list_any-mono _ _ (entries u (variant n b)) (needed_entry g none members)) h)))

  pub deconfigure_covers : (of : Lane) (spent : ℕ) (members : List ℕ) → spent ≤ m.cost
      → Covers ((
        nat_lt of.budget (spent + length members),
        OverBudget,
      ) ∷ deconfigure_traps u c members) (deconfigure_risks u of m members)
  deconfigure_covers of spent members le =
      cons (over-may of.budget _ _ _ _ le (le_refl _))
      (cons (list_any-mono _ _ members (λ k e. ap not (sym (is_configured-may (al.each k))) ∙ e))
      (cons (needed_sound deconfigured_slot refl members) nil))

  pub remove_covers : (of : Lane) (spent : ℕ) (members : List ℕ) → spent ≤ m.cost
      → Covers ((
        nat_lt of.budget (spent + length members),
        OverBudget,
      ) ∷ remove_traps u c members) (remove_risks u of m members)
  remove_covers of spent members le =
      cons (over-may of.budget _ _ _ _ le (le_refl _))
      (cons (list_any-mono _ _ members (λ k e. ap not (sym (is_present-may (al.each k))) ∙ e))
      (cons (members-may members (essential u) (essential u) (λ v e. e))
      (cons (needed_sound (λ s. Absent) refl members) nil)))
