-- A may map that allows less than another: its slots, and the tests on them.
use Rattle.std.proofs.Common.{◌≡◌, ℕ, zero, suc, ◌<◌, ◌≤◌, cond, Bool, true, false, not, ◌&&◌, ◌||◌, ◌⊎◌, inl, inr, refl, arith}
use Rattle.std.proofs.lemmas.Bool.{or_cases, or_left, or_right, and_parts, and_from, both_ways, cases_Bool, cond-true, cond-false, not-true, not_from_false}
use Rattle.deb_relation.specs.Relations.{Entry}
use Rattle.farm_model.specs.Common.{some_below, greatest_below, Universe, variant, variants, size, satisfies, satisfies_entry}
use Rattle.farm_model.proofs.BelowLaws.{some_below-mono, every_below-at, every_below-all}
use Rattle.plan_model.specs.Common.{Bits, MaySlot, MayAbsent, MayUnpacked, MayConfigured, May, all_of, some_of, may_hold, may_hold_configured, surely_holds, surely_configured, all_satisfy, surely_pre_meets, may_size, greatest_size, is_surely_unpacked, is_surely_configured, is_surely_present, may_be_last, may_be_configured, may_be_deconfigured}
use Rattle.farm_laws.proofs.Slots.{list_any-mono}

-- a part of a set of variants: empty only where the whole is
pub record IsPart (count : ℕ) (part whole : Bits) : Type 0 where
  pub within : (b : ℕ) → b < count → part b ≡ true → whole b ≡ true
  pub some : some_below count whole ≡ true → some_below count part ≡ true

-- a slot that is as the other, and allows a part
pub data Narrows (count : ℕ) : MaySlot → MaySlot → Type 0 where
  both_absent : Narrows count MayAbsent MayAbsent
  both_unpacked : {current last wide wide_last : Bits} → IsPart count current wide
      → IsPart count last wide_last
      → Narrows count (MayUnpacked current last) (MayUnpacked wide wide_last)
  both_configured : {current wide : Bits} → IsPart count current wide
      → Narrows count (MayConfigured current) (MayConfigured wide)

-- a map whose slots do, that costs no more, with the same builds
pub record NarrowsAll (u : Universe) (m w : May) : Type 0 where
  pub each : (n : ℕ) → Narrows (variants u n) (m.slots n) (w.slots n)
  pub cost : m.cost ≤ w.cost
  pub built : m.built ≡ w.built

pub part_of_itself : (count : ℕ) (set : Bits) → IsPart count set set
part_of_itself count set = record { within = λ b lt e. e; some = λ e. e }

pub narrows_itself : (count : ℕ) (s : MaySlot) → Narrows count s s
narrows_itself count MayAbsent = both_absent
narrows_itself count (MayUnpacked current last) =
    both_unpacked (part_of_itself count current) (part_of_itself count last)
narrows_itself count (MayConfigured current) = both_configured (part_of_itself count current)

greatest_below-mono : (n : ℕ) (p q : ℕ → Bool) (f : ℕ → ℕ)
    → ((k : ℕ) → k < n → p k ≡ true → q k ≡ true) → greatest_below n p f ≤ greatest_below n q f
greatest_below-mono zero p q f h = omega arith
greatest_below-mono (suc n) p q f h =
    by (cases_Bool (p n)) (greatest_below-mono n p q f (λ k lt. h k (omega arith)))
  where
    by : (p n ≡ true) ⊎ (p n ≡ false) → greatest_below n p f ≤ greatest_below n q f
        → greatest_below (suc n) p f ≤ greatest_below (suc n) q f
    by (inl here) rest =
        let a : cond (p n) (f n) 0 ≡ f n = cond-true (p n) (f n) 0 here in
        let b : cond (q n) (f n) 0 ≡ f n =
        cond-true (q n) (f n) 0 (h n (omega arith) here) in omega (arith, a, b, rest)
    by (inr none) rest =
        let a : cond (p n) (f n) 0 ≡ 0 = cond-false (p n) (f n) 0 none in omega (arith, a, rest)

module _ (u : Universe) (n : ℕ) where
  pub some_of-mono : (part whole p q : Bits) → IsPart (variants u n) part whole
      → ((b : ℕ) → p b ≡ true → q b ≡ true) → some_of u n part p ≡ true → some_of u n whole q ≡ true
  some_of-mono part whole p q is h =
      some_below-mono (variants u n) (λ b. part b && p b) (λ b. whole b && q b)
      (λ b lt e. let parts = and_parts (part b) (p b) e in and_from (whole b) (q b)
      (is.within b lt parts.0) (h b parts.1))

  pub all_of-mono : (part whole p : Bits) → IsPart (variants u n) part whole
      → all_of u n whole p ≡ true → all_of u n part p ≡ true
  all_of-mono part whole p is e =
      every_below-all (variants u n) (λ b. not (part b) || p b)
      (λ b lt. elim (cases_Bool (part b)) [
        | inl here ↦
            elim (or_cases (not (whole b)) (p b)
            (every_below-at (variants u n) (λ k. not (whole k) || p k) b lt e)) [
              | inl none ↦ absurd (both_ways (whole b) (not-true _ none) (is.within b lt here))
              | inr fine ↦ or_right (not (part b)) (p b) fine
            ]
        | inr none ↦ or_left (not (part b)) (p b) (not_from_false (part b) none)
      ])

  pub greatest_size-mono : (part whole : Bits) → IsPart (variants u n) part whole
      → greatest_size u n part ≤ greatest_size u n whole
  greatest_size-mono part whole is =
      greatest_below-mono (variants u n) part whole (λ b. size u (variant n b)) is.within

  -- what the narrower slot may hold the other may
  pub may_hold-wider : (p q : Bits) {s t : MaySlot} → ((b : ℕ) → p b ≡ true → q b ≡ true)
      → Narrows (variants u n) s t → may_hold u n p s ≡ true → may_hold u n q t ≡ true
  may_hold-wider p q h both_absent e = e
  may_hold-wider p q h (both_unpacked {current = current} {wide = wide} is was) e =
      some_of-mono current wide p q is h e
  may_hold-wider p q h (both_configured {current = current} {wide = wide} is) e =
      some_of-mono current wide p q is h e

  pub may_hold_configured-wider : (p q : Bits) {s t : MaySlot} → ((b : ℕ) → p b ≡ true → q b ≡ true)
      → Narrows (variants u n) s t → may_hold_configured u n p s ≡ true
      → may_hold_configured u n q t ≡ true
  may_hold_configured-wider p q h both_absent e = e
  may_hold_configured-wider p q h (both_unpacked is was) e = e
  may_hold_configured-wider p q h (both_configured {current = current} {wide = wide} is) e =
      some_of-mono current wide p q is h e

  -- what surely holds of the other holds of the narrower slot
  pub surely_holds-narrower : (p : Bits) {s t : MaySlot} → Narrows (variants u n) s t
      → surely_holds u n p t ≡ true → surely_holds u n p s ≡ true
  surely_holds-narrower p both_absent e = e
  surely_holds-narrower p (both_unpacked {current = current} {wide = wide} is was) e =
      all_of-mono current wide p is e
  surely_holds-narrower p (both_configured {current = current} {wide = wide} is) e =
      all_of-mono current wide p is e

  pub surely_configured-narrower : (p : Bits) {s t : MaySlot} → Narrows (variants u n) s t
      → surely_configured u n p t ≡ true → surely_configured u n p s ≡ true
  surely_configured-narrower p both_absent e = e
  surely_configured-narrower p (both_unpacked is was) e = e
  surely_configured-narrower p (both_configured {current = current} {wide = wide} is) e =
      all_of-mono current wide p is e

  all_satisfy-narrower : (e : Entry) (current last wide wide_last : Bits)
      → IsPart (variants u n) current wide → IsPart (variants u n) last wide_last
      → all_satisfy u e n wide wide_last ≡ true → all_satisfy u e n current last ≡ true
  all_satisfy-narrower e current last wide wide_last is was h =
      let parts = and_parts _ _ h in
      let rest = and_parts _ _ parts.1 in
      and_from _ _ (is.some parts.0)
      (and_from _ _ (was.some rest.0)
      (list_any-mono _ _ e
      (λ a k. let both = and_parts _ _ k in
      and_from _ _ (all_of-mono current wide (λ b. satisfies u a (variant n b)) is both.0)
      (all_of-mono last wide_last (λ b. satisfies u a (variant n b)) was both.1)) rest.1))

  pub surely_pre_meets-narrower : (e : Entry) {s t : MaySlot} → Narrows (variants u n) s t
      → surely_pre_meets u e n t ≡ true → surely_pre_meets u e n s ≡ true
  surely_pre_meets-narrower e both_absent h = h
  surely_pre_meets-narrower e (both_unpacked {current = current} {last = last} {wide = wide}
      {wide_last = wide_last} is was) h = all_satisfy-narrower e current last wide wide_last is was
      h
  surely_pre_meets-narrower e (both_configured {current = current} {wide = wide} is) h =
      all_of-mono current wide (λ b. satisfies_entry u e (variant n b)) is h

  pub may_size-wider : {s t : MaySlot} → Narrows (variants u n) s t
      → may_size u n s ≤ may_size u n t
  may_size-wider both_absent = omega arith
  may_size-wider (both_unpacked {current = current} {wide = wide} is was) =
      greatest_size-mono current wide is
  may_size-wider (both_configured {current = current} {wide = wide} is) =
      greatest_size-mono current wide is

-- both slots are in the same phase
pub same_unpacked : {count : ℕ} {s t : MaySlot} → Narrows count s t
    → is_surely_unpacked s ≡ is_surely_unpacked t
same_unpacked both_absent = refl
same_unpacked (both_unpacked is was) = refl
same_unpacked (both_configured is) = refl

pub same_configured : {count : ℕ} {s t : MaySlot} → Narrows count s t
    → is_surely_configured s ≡ is_surely_configured t
same_configured both_absent = refl
same_configured (both_unpacked is was) = refl
same_configured (both_configured is) = refl

pub same_present : {count : ℕ} {s t : MaySlot} → Narrows count s t
    → is_surely_present s ≡ is_surely_present t
same_present both_absent = refl
same_present (both_unpacked is was) = refl
same_present (both_configured is) = refl

pub last-narrower : {count : ℕ} {s t : MaySlot} → Narrows count s t
    → IsPart count (may_be_last s) (may_be_last t)
last-narrower both_absent = record { within = λ b lt e. e; some = λ e. e }
last-narrower (both_unpacked is was) = was
last-narrower (both_configured is) = is

pub configured-narrower : {count : ℕ} {s t : MaySlot} → Narrows count s t
    → Narrows count (may_be_configured s) (may_be_configured t)
configured-narrower both_absent = both_absent
configured-narrower (both_unpacked is was) = both_configured is
configured-narrower (both_configured is) = both_configured is

pub deconfigured-narrower : {count : ℕ} {s t : MaySlot} → Narrows count s t
    → Narrows count (may_be_deconfigured s) (may_be_deconfigured t)
deconfigured-narrower both_absent = both_absent
deconfigured-narrower (both_unpacked is was) = both_unpacked is was
deconfigured-narrower (both_configured is) = both_unpacked is is

pub cond-narrower : {count : ℕ} (b : Bool) {s t x y : MaySlot} → Narrows count s t
    → Narrows count x y → Narrows count (cond b s x) (cond b t y)
cond-narrower true h k = h
cond-narrower false h k = k
