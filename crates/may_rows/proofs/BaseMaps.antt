-- The words of a base chroot, one package after the other.
use Rattle.std.proofs.Common.{◌≡◌, ◌≢◌, ◌⊎◌, inl, inr, ℕ, zero, suc, ◌<◌, ◌^◌, Bool, true, false, ◌==◌, List, [], ◌∷◌, length, take, replicate, Option, Some, None, refl, sym, ap, ◌∙◌, arith, if◌then◌else◌}
use Rattle.std.specs.Prelude.{slice_index, slice_index_or}
use Rattle.std.specs.List.{find}
use Rattle.std.proofs.lemmas.Bool.{cases_Bool, cases_eq, eq-eqb, eqb-true, ne_eqb, both_ways}
use Rattle.std.proofs.lemmas.Nat.{pow_pos}
use Rattle.clause_kernel.specs.Rows.{word_has}
use Rattle.bit_rows.proofs.OneName.{one_bit}
use Rattle.farm_model.specs.Common.{sum_below, Universe, names, variants, base}
use Rattle.farm_model.specs.declared.types.Variant.{Variant}
use Rattle.farm_model.proofs.BelowLaws.{sum_below-same}
use Rattle.plan_model.specs.Common.{Lane, no_builds, MaySlot, MayAbsent, MayUnpacked, MayConfigured, May, may_use, is_surely_present, may_base_slot, may_base}
use Rattle.may_rows.specs.Words.{Words, slot_of, may_of, joined_word, AreOfName, AreWords, with_slot}
use Rattle.may_rows.proofs.Unpacked.{none-words}

-- ---- nothing

zeros-at : (n k : ℕ) → slice_index (replicate n 0) k ≡ 0
zeros-at zero k = refl
zeros-at (suc n) zero = refl
zeros-at (suc n) (suc k) = zeros-at n k

no_sum : (n : ℕ) → sum_below n (λ k. 0) ≡ 0
no_sum zero = refl
no_sum (suc n) = let rest = no_sum n in omega (arith, rest)

abbrev pub nothing : (names recipes : ℕ) → Words
nothing n r = record {
  here = replicate n 0;
  ready = replicate n 0;
  last = replicate n 0;
  both = replicate n 0;
  used = 0;
  cost = 0;
  built = replicate r false;
}

zeros-long : {X : Type 0} (n : ℕ) (x : X) → length (replicate n x) ≡ n
zeros-long zero x = refl
zeros-long (suc n) x = ap suc (zeros-long n x)

pub nothing-words : (u : Universe) → AreWords u (nothing (names u) (length u.recipes))
unfolding may_use
nothing-words u = record {
  here_long = zeros-long (names u) 0;
  ready_long = zeros-long (names u) 0;
  last_long = zeros-long (names u) 0;
  both_long = zeros-long (names u) 0;
  built_long = zeros-long (length u.recipes) false;
  each = λ n. rw (zeros-at (names u) n) (none-words (variants u n));
  used_is =
      sym (sum_below-same (names u) _ (λ k. 0) (λ k lt. rw (zeros-at (names u) k) refl)
      ∙ no_sum (names u));
}

-- ---- one package

pub single-words : (count bit word : ℕ) → word ≡ 2 ^ bit → bit < count
    → AreOfName count word word word (joined_word word word)
single-words count bit word is lt = record {
  phase = inr (refl, refl);
  absent = λ none. none;
  here_known = known;
  last_known = known;
  joined = refl;
}
  where
    known : (b : ℕ) → word_has word b ≡ true → b < count
    known b has =
        let same : b ≡ bit =
        eqb-true b bit (sym (one_bit bit b) ∙ ap (λ w. word_has w b) (sym is) ∙ has) in
        omega (arith, same, lt)

pub single-slot : (bit word : ℕ) → word ≡ 2 ^ bit
    → slot_of word word word ≡ MayConfigured (λ b. b == bit)
single-slot bit word is =
    let some : word ≢ 0 = λ none. omega (arith, none, is, pow_pos bit) in
    rw (ne_eqb word 0 some)
    (ap (λ w. MayConfigured (word_has w)) is ∙ (λ i. MayConfigured (λ b. one_bit bit b i)))

-- ---- the packages so far

abbrev first_or : Option Variant → Option Variant → Option Variant
first_or (Some v) other = Some v
first_or None other = other

find_step : (p : Variant → Bool) (x : Variant) (now before : Option Variant) (last : Option Variant)
    (t : Bool) → p x ≡ t → now ≡ first_or before last
    → (if p x then Some x else now) ≡ first_or (if p x then Some x else before) last
find_step p x now before last true is rest = rw is refl
find_step p x now before last false is rest = rw is rest

find-more : (p : Variant → Bool) (xs : List Variant) (i : ℕ) (d : Variant) → i < length xs
    → find p (take (suc i) xs)
    ≡ first_or (find p (take i xs))
    (if p (slice_index_or xs i d) then Some (slice_index_or xs i d) else None)
find-more p [] i d lt = absurd (omega arith)
find-more p (x ∷ xs) zero d lt = refl
find-more p (x ∷ xs) (suc i) d lt =
    find_step p x _ _ _ (p x) refl (find-more p xs i d (omega arith))

-- a name's slot is that of the first package found
abbrev pub AreSlots : Words → List Variant → Type 0
AreSlots w xs = (n : ℕ) → (may_of w).slots n ≡ may_base_slot
    (find (λ (v : Variant). v.name == n) xs)

after_slot : (first : Option Variant) (x : Variant) (n : ℕ)
    → may_base_slot (first_or first (if x.name == n then Some x else None))
    ≡ (if is_surely_present (may_base_slot first) then may_base_slot first
    else (if x.name == n then MayConfigured (λ b. b == x.bit) else MayAbsent))
after_slot (Some v) x n = refl
after_slot None x n = by (x.name == n)
  where
    by : (t : Bool) → may_base_slot (if t then Some x else None)
        ≡ (if t then MayConfigured (λ b. b == x.bit) else MayAbsent)
    by true = refl
    by false = refl

absent_is : (s : MaySlot) → is_surely_present s ≡ false → s ≡ MayAbsent
absent_is MayAbsent e = refl
absent_is (MayUnpacked current last) e = cc
absent_is (MayConfigured current) e = cc

module _ (w next : Words) (xs : List Variant) (i : ℕ) (none x : Variant) (lt : i < length xs)
    (is : slice_index_or xs i none ≡ x) (so_far : AreSlots w (take i xs))
    (added : may_of next
    ≡ (if is_surely_present ((may_of w).slots x.name) then may_of w
    else with_slot (may_of w) x.name (MayConfigured (λ b. b == x.bit)))) where
  found_next : (n : ℕ) → find (λ (v : Variant). v.name == n) (take (suc i) xs)
      ≡ first_or (find (λ (v : Variant). v.name == n) (take i xs))
      (if x.name == n then Some x else None)
  found_next n =
      find-more (λ v. v.name == n) xs i none lt
      ∙ ap (λ (y : Variant). first_or (find (λ (v : Variant). v.name == n) (take i xs))
      (if y.name == n then Some y else None)) is

  wanted_slot : (n : ℕ) → may_base_slot (find (λ (v : Variant). v.name == n) (take (suc i) xs))
      ≡ (if is_surely_present ((may_of w).slots n) then (may_of w).slots n
      else (if x.name == n then MayConfigured (λ b. b == x.bit) else MayAbsent))
  wanted_slot n =
      ap may_base_slot (found_next n)
      ∙ after_slot (find (λ (v : Variant). v.name == n) (take i xs)) x n
      ∙ ap (λ s. if is_surely_present s then s
      else (if x.name == n then MayConfigured (λ b. b == x.bit) else MayAbsent))
      (sym (so_far n))

  pub slots-next : AreSlots next (take (suc i) xs)
  slots-next n =
      ap (λ (m : May). m.slots n) added
      ∙ by (cases_Bool (is_surely_present ((may_of w).slots x.name)))
      (cases_Bool (is_surely_present ((may_of w).slots n))) (cases_eq x.name n)
      ∙ sym (wanted_slot n)
    where
      Goal : Type 0
      Goal = (if is_surely_present ((may_of w).slots x.name) then may_of w
          else with_slot (may_of w) x.name (MayConfigured (λ b. b == x.bit))).slots n
          ≡ (if is_surely_present ((may_of w).slots n) then (may_of w).slots n
          else (if x.name == n then MayConfigured (λ b. b == x.bit) else MayAbsent))

      by : (is_surely_present ((may_of w).slots x.name) ≡ true)
          ⊎ (is_surely_present ((may_of w).slots x.name) ≡ false)
          → (is_surely_present ((may_of w).slots n) ≡ true)
          ⊎ (is_surely_present ((may_of w).slots n) ≡ false)
          → (x.name ≡ n) ⊎ (x.name ≡ n → ⊥) → Goal
      by (inl here) (inl there) c = rw (here, there) refl
      by (inl here) (inr empty) (inl same) =
          absurd (both_ways _ empty
          (ap (λ k. is_surely_present ((may_of w).slots k)) (sym same) ∙ here))
      by (inl here) (inr empty) (inr other) =
          rw (here, empty, ne_eqb x.name n other) (absent_is ((may_of w).slots n) empty)
      by (inr absent) (inl there) (inl same) =
          absurd (both_ways _
          (ap (λ k. is_surely_present ((may_of w).slots k)) (sym same) ∙ absent) there)
      by (inr absent) (inl there) (inr other) =
          rw (absent, there, ne_eqb n x.name (λ e. other (sym e))) refl
      by (inr absent) (inr empty) (inl same) =
          rw (absent, empty, eq-eqb x.name n same, eq-eqb n x.name (sym same)) refl
      by (inr absent) (inr empty) (inr other) =
          rw (absent, empty, ne_eqb x.name n other, ne_eqb n x.name (λ e. other (sym e)))
          (absent_is ((may_of w).slots n) empty)

abbrev base_map : Universe → ℕ → May
base_map u k = record {
  slots = λ n. may_base_slot (find (λ (v : Variant). v.name == n) (base u k).packages);
  cost = 0;
  built = no_builds u;
}

-- all packages make the map of the base chroot
pub base-is : (u : Universe) (number : ℕ) (w : Words) → AreSlots w (base u number).packages
    → w.cost ≡ 0 → w.built ≡ no_builds u → (of : Lane) → of.base ≡ number
    → may_of w ≡ may_base u of
base-is u number w slots free unbuilt of same =
    (λ i. record { slots = λ n. slots n i; cost = free i; built = unbuilt i })
    ∙ ap (base_map u) (sym same)

-- a package costs nothing, and builds nothing
module _ (w next : Words) (x : Variant)
    (added : may_of next
    ≡ (if is_surely_present ((may_of w).slots x.name) then may_of w
    else with_slot (may_of w) x.name (MayConfigured (λ b. b == x.bit)))) where
  pub added-cost : next.cost ≡ w.cost
  added-cost = ap (λ (m : May). m.cost) added ∙ by (is_surely_present ((may_of w).slots x.name))
    where
      by : (t : Bool)
          → (if t then may_of w else with_slot (may_of w) x.name
          (MayConfigured (λ b. b == x.bit))).cost
          ≡ w.cost
      by true = refl
      by false = refl

  pub added-built : next.built ≡ w.built
  added-built = ap (λ (m : May). m.built) added ∙ by (is_surely_present ((may_of w).slots x.name))
    where
      by : (t : Bool)
          → (if t then may_of w else with_slot (may_of w) x.name
          (MayConfigured (λ b. b == x.bit))).built
          ≡ w.built
      by true = refl
      by false = refl
