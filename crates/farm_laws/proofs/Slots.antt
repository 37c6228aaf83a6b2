-- A slot that a map's slot allows: each test on it is bounded by the map's.
use Rattle.std.proofs.Common.{◌≡◌, ℕ, ◌<◌, ◌≤◌, Bool, true, false, not, ◌&&◌, ◌||◌, inl, inr, List, [], ◌∷◌, Option, refl, arith, if◌then◌else◌}
use Rattle.std.specs.List.{list_any}
use Rattle.std.proofs.lemmas.Bool.{not-true, both_ways, false≢true, or_cases, or_left, or_right, and_parts, and_from}
use Rattle.deb_relation.specs.Relations.{Entry}
use Rattle.farm_model.specs.Common.{Universe, variant, variants, size, satisfies, satisfies_entry, holds, holds_configured, is_present, is_unpacked, is_configured, last_of, size_in, both_satisfy, pre_meets, configured_slot, deconfigured_slot}
use Rattle.farm_model.specs.declared.types.Slot.{Slot}
use Rattle.farm_model.specs.declared.types.Slot.TheVariants.{Absent, Unpacked, Configured}
use Rattle.farm_model.proofs.BelowLaws.{some_below-at, some_below-found, every_below-at, greatest_below-at}
use Rattle.plan_model.specs.Common.{Bits, MaySlot, all_of, some_of, is_some_of, may_hold, may_hold_configured, surely_holds, surely_configured, all_satisfy, surely_pre_meets, may_size, is_surely_unpacked, is_surely_configured, is_surely_present, AllowsLast, unknown, once, Allows, allows_absent, allows_unpacked, allows_configured, may_be_last, may_be_configured, may_be_deconfigured}

pub list_any-mono : {X : Type 0} (p q : X → Bool) (xs : List X)
    → ((x : X) → p x ≡ true → q x ≡ true) → list_any p xs ≡ true → list_any q xs ≡ true
list_any-mono p q [] h e = e
list_any-mono p q (x ∷ xs) h e =
    elim (or_cases (p x) _ e) [
      | inl here ↦ or_left (q x) _ (h x here)
      | inr there ↦
          or_right (q x) _ (list_any-mono p q xs h there)
    ]

pub not-mono : (a b : Bool) → (b ≡ true → a ≡ true) → not a ≡ true → not b ≡ true
not-mono a true h e = absurd (both_ways a (not-true a e) (h refl))
not-mono a false h e = refl

pub and-mono : (a b c : Bool) → (b ≡ true → c ≡ true) → (a && b) ≡ true → (a && c) ≡ true
and-mono a b c h e = let parts = and_parts a b e in and_from a c parts.0 (h parts.1)

pub or-mono : (a b c d : Bool) → (a ≡ true → c ≡ true) → (b ≡ true → d ≡ true) → (a || b) ≡ true
    → (c || d) ≡ true
or-mono a b c d h k e = elim (or_cases a b e) [
  | inl x ↦ or_left c d (h x)
  | inr y ↦
      or_right c d (k y)
]

module _ (u : Universe) (n : ℕ) where
  pub some_of-at : (set p : Bits) (b : ℕ) → b < variants u n → set b ≡ true → p b ≡ true
      → some_of u n set p ≡ true
  some_of-at set p b lt c h = some_below-at (variants u n) (λ k. set k && p k) b lt
      (and_from (set b) (p b) c h)

  all_of-at : (set p : Bits) (b : ℕ) → b < variants u n → set b ≡ true → all_of u n set p ≡ true
      → p b ≡ true
  all_of-at set p b lt c h =
      elim (or_cases (not (set b)) (p b)
      (every_below-at (variants u n) (λ k. not (set k) || p k) b lt h)) [
        | inl none ↦ absurd (both_ways (set b) (not-true (set b) none) c)
        | inr passed ↦ passed
      ]

  pub holds-may : (p : Bits) {ms : MaySlot} {s : Slot} → Allows (variants u n) ms s
      → holds p s ≡ true → may_hold u n p ms ≡ true
  holds-may p allows_absent h = h
  holds-may p (allows_unpacked {current = set} {b = b} lt c l) h = some_of-at set p b lt c h
  holds-may p (allows_configured {current = set} {b = b} lt c) h = some_of-at set p b lt c h

  pub holds_configured-may : (p : Bits) {ms : MaySlot} {s : Slot} → Allows (variants u n) ms s
      → holds_configured p s ≡ true → may_hold_configured u n p ms ≡ true
  holds_configured-may p allows_absent h = h
  holds_configured-may p (allows_unpacked lt c l) h = h
  holds_configured-may p (allows_configured {current = set} {b = b} lt c) h =
      some_of-at set p b lt c h

  pub surely_configured-holds : (p : Bits) {ms : MaySlot} {s : Slot} → Allows (variants u n) ms s
      → surely_configured u n p ms ≡ true → holds_configured p s ≡ true
  surely_configured-holds p allows_absent h = h
  surely_configured-holds p (allows_unpacked lt c l) h = h
  surely_configured-holds p (allows_configured {current = set} {b = b} lt c) h =
      all_of-at set p b lt c h

  pub surely_holds-holds : (p : Bits) {ms : MaySlot} {s : Slot} → Allows (variants u n) ms s
      → surely_holds u n p ms ≡ true → holds p s ≡ true
  surely_holds-holds p allows_absent h = h
  surely_holds-holds p (allows_unpacked {current = set} {b = b} lt c l) h = all_of-at set p b lt c h
  surely_holds-holds p (allows_configured {current = set} {b = b} lt c) h = all_of-at set p b lt c h

  both-satisfy : (e : Entry) (set last : Bits) (b : ℕ) {was : Option ℕ} → b < variants u n
      → set b ≡ true → AllowsLast (variants u n) last was
      → all_satisfy u e n set last ≡ true → both_satisfy u e n b was ≡ true
  both-satisfy e set last b lt c (unknown none) h =
      let some = some_below-found (variants u n) last
      (and_parts (is_some_of u n last) _ (and_parts (is_some_of u n set) _ h).1).0 in
      absurd (none some.0 some.1 some.2)
  both-satisfy e set last b lt c (once {b = w} lw w_in) h =
      list_any-mono _ _ e
      (λ a k. let parts = and_parts _ _ k in
      and_from _ _ (all_of-at set (λ b. satisfies u a (variant n b)) b lt c parts.0)
      (all_of-at last (λ b. satisfies u a (variant n b)) w lw w_in parts.1))
      (and_parts (is_some_of u n last) _ (and_parts (is_some_of u n set) _ h).1).1

  pub surely_pre_meets-meets : (e : Entry) {ms : MaySlot} {s : Slot} → Allows (variants u n) ms s
      → surely_pre_meets u e n ms ≡ true → pre_meets u e n s ≡ true
  surely_pre_meets-meets e allows_absent h = h
  surely_pre_meets-meets e (allows_unpacked {current = set} {last = last} {b = b} lt c l) h =
      both-satisfy e set last b lt c l h
  surely_pre_meets-meets e (allows_configured {current = set} {b = b} lt c) h =
      all_of-at set (λ b. satisfies_entry u e (variant n b)) b lt c h

  pub size_in-may : {ms : MaySlot} {s : Slot} → Allows (variants u n) ms s
      → size_in u n s ≤ may_size u n ms
  size_in-may allows_absent = omega arith
  size_in-may (allows_unpacked {current = set} {b = b} lt c l) =
      greatest_below-at (variants u n) set (λ b. size u (variant n b)) b lt c
  size_in-may (allows_configured {current = set} {b = b} lt c) =
      greatest_below-at (variants u n) set (λ b. size u (variant n b)) b lt c

pub is_unpacked-may : {count : ℕ} {ms : MaySlot} {s : Slot} → Allows count ms s
    → is_unpacked s ≡ is_surely_unpacked ms
is_unpacked-may allows_absent = refl
is_unpacked-may (allows_unpacked lt c l) = refl
is_unpacked-may (allows_configured lt c) = refl

pub is_configured-may : {count : ℕ} {ms : MaySlot} {s : Slot} → Allows count ms s
    → is_configured s ≡ is_surely_configured ms
is_configured-may allows_absent = refl
is_configured-may (allows_unpacked lt c l) = refl
is_configured-may (allows_configured lt c) = refl

pub is_present-may : {count : ℕ} {ms : MaySlot} {s : Slot} → Allows count ms s
    → is_present s ≡ is_surely_present ms
is_present-may allows_absent = refl
is_present-may (allows_unpacked lt c l) = refl
is_present-may (allows_configured lt c) = refl

pub last_allowed : {count : ℕ} {ms : MaySlot} {s : Slot} → Allows count ms s
    → AllowsLast count (may_be_last ms) (last_of s)
last_allowed allows_absent = unknown (λ b lt e. false≢true e)
last_allowed (allows_unpacked lt c l) = l
last_allowed (allows_configured lt c) = once lt c

pub configured_allowed : {count : ℕ} {ms : MaySlot} {s : Slot} → Allows count ms s
    → Allows count (may_be_configured ms) (configured_slot s)
configured_allowed allows_absent = allows_absent
configured_allowed (allows_unpacked lt c l) = allows_configured lt c
configured_allowed (allows_configured lt c) = allows_configured lt c

pub deconfigured_allowed : {count : ℕ} {ms : MaySlot} {s : Slot} → Allows count ms s
    → Allows count (may_be_deconfigured ms) (deconfigured_slot s)
deconfigured_allowed allows_absent = allows_absent
deconfigured_allowed (allows_unpacked lt c l) = allows_unpacked lt c l
deconfigured_allowed (allows_configured lt c) = allows_unpacked lt c (once lt c)

pub cond_allowed : {count : ℕ} (b : Bool) {ms ms' : MaySlot} {s s' : Slot} → Allows count ms s
    → Allows count ms' s' → Allows count (if b then ms else ms') (if b then s else s')
cond_allowed true h k = h
cond_allowed false h k = k

pub either_allowed : {count : ℕ} (b : Bool) {ms ms' : MaySlot} {s : Slot} → Allows count ms s
    → Allows count ms' s → Allows count (if b then ms else ms') s
either_allowed true h k = h
either_allowed false h k = k

pub holds-mono : (p q : Bits) (s : Slot) → ((b : ℕ) → p b ≡ true → q b ≡ true) → holds p s ≡ true
    → holds q s ≡ true
holds-mono p q Absent h e = e
holds-mono p q (Unpacked b last) h e = h b e
holds-mono p q (Configured b) h e = h b e

pub holds_configured-mono : (p q : Bits) (s : Slot) → ((b : ℕ) → p b ≡ true → q b ≡ true)
    → holds_configured p s ≡ true → holds_configured q s ≡ true
holds_configured-mono p q Absent h e = e
holds_configured-mono p q (Unpacked b last) h e = e
holds_configured-mono p q (Configured b) h e = h b e
