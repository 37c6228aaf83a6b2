-- The variants of a name stand in the order of their versions.
use Rattle.std.proofs.Common.{◌≡◌, ℕ, zero, suc, ◌+◌, ◌-◌, ◌^◌, ◌==◌, lit<, ◌<◌, ◌≤◌, Bool, true, false, not, ◌&&◌, nat_lt, List, None, Some, Ordering, refl, sym, ap, subst, ◌∙◌, inl, inr, arith}
use Rattle.std.specs.declared.cmp.Ordering.TheVariants.{Less, Equal, Greater}
use Rattle.std.proofs.lemmas.Cmp.{alike_right}
use Rattle.std.proofs.lemmas.Bool.{cases_lt, cases_Bool, both_ways, lt-ltb}
use Rattle.std.proofs.lemmas.Bool.Decides.{nat_tests}
use Rattle.std.proofs.Math.Bool.{and-true}
use Rattle.std.proofs.Math.Nat.{pow-le-pow_right}
use Rattle.std.proofs.lemmas.Nat.{pow_pos}
use Rattle.std.proofs.lemmas.Nat.Bits.{bit_at_mask_above, bit_at_mask_below, bit_at_mask_inside}
use Rattle.clause_kernel.specs.Rows.{word_has}
use Rattle.deb_version.specs.Grammar.{text_cmp}
use Rattle.deb_version.specs.OrderLaws.{text_cmp_total}
use Rattle.farm_model.specs.Common.{Universe, variant, names, variants, package_of, is_wanted, IsInOrder}
use Rattle.farm_universe.proofs.PlaceLaws.{no_variants}
use Rattle.std.specs.Ordering.{is_lt, is_le, ordering_reverse}
use Rattle.deb_relation.specs.Satisfaction.{admits}
use Rattle.deb_relation.specs.declared.operator.Op.{Op}
use Rattle.deb_relation.specs.declared.operator.Op.TheVariants.{Earlier, EarlierOrEqual, Equal as SameVersion, LaterOrEqual, Later}
use Rattle.sat_rows.specs.Rows.{variant_passes}
use Rattle.sat_rows.specs.Ranges.{is_before, IsCountBefore, IsRange}

-- numbers that are not below
pub not_lt : (b count : ℕ) → count ≤ b → nat_lt b count ≡ false
not_lt b count le = grind (arith, nat_tests)

-- below a version that is before a bound, all are
one_below : (e : Bool) (x y z : List ℕ) → text_cmp x y ≡ Less → is_before e (text_cmp y z) ≡ true
    → is_before e (text_cmp x z) ≡ true
one_below e x y z less before = at (text_cmp y z) refl before
  where
    is : text_cmp x z ≡ Less → is_before e (text_cmp x z) ≡ true
    is less = ap (is_before e) less ∙ any e
      where
        any : (e : Bool) → is_before e Less ≡ true
        any true = refl
        any false = refl

    at : (o : Ordering) → text_cmp y z ≡ o → is_before e o ≡ true → is_before e (text_cmp x z)
        ≡ true
    at Less same before = is (text_cmp_total.trans x y z less same)
    at Equal same before = is (sym (alike_right text_cmp_total y z x same) ∙ less)
    at Greater same before = none e before
      where
        none : (e : Bool) → is_before e Greater ≡ true → is_before e (text_cmp x z) ≡ true
        none true wrong = absurd cc
        none false wrong = absurd cc

module _ (u : Universe) (order : IsInOrder u) (n : ℕ) (bound : List ℕ) (e : Bool) where
  abbrev pub before : ℕ → Bool
  before b = is_before e (text_cmp (package_of u (variant n b)).version bound)

  pub before_below : (a b : ℕ) → a ≤ b → b < variants u n → before b ≡ true → before a ≡ true
  before_below a zero le lt is = subst (λ k. before k ≡ true)
      (let same : 0 ≡ a = omega arith in same) is
  before_below a (suc b) le lt is =
      elim (cases_lt a (suc b)) [
        | inl below ↦
            before_below a b (omega arith) (omega arith)
            (one_below e (package_of u (variant n b)).version
            (package_of u (variant n (suc b))).version
            bound (order.rising n b lt) is)
        | inr ge ↦ subst (λ k. before k ≡ true) (let same : suc b ≡ a = omega arith in same) is
      ]

-- the number of those before the bound lies between the two
pub record IsBetween (u : Universe) (n : ℕ) (bound : List ℕ) (e : Bool) (low high : ℕ) : Type 0
  where
    pub order : low ≤ high
    pub within : high ≤ variants u n
    pub below : (b : ℕ) → b < low
        → is_before e (text_cmp (package_of u (variant n b)).version bound)
        ≡ true
    pub above : (b : ℕ) → high ≤ b → b < variants u n
        → is_before e (text_cmp (package_of u (variant n b)).version bound) ≡ false

module _ (u : Universe) (n : ℕ) (bound : List ℕ) (e : Bool) where
  pub all_between : IsBetween u n bound e 0 (variants u n)
  all_between =
      record {
        order = omega arith;
        within = omega arith;
        below = λ b lt. absurd (omega arith);
        above = λ b ge lt. absurd (omega arith);
      }

  module _ (order : IsInOrder u) (low high bit : ℕ) (is : IsBetween u n bound e low high)
      (from : low ≤ bit) (to : bit < high) where
    pub goes_up : is_before e (text_cmp (package_of u (variant n bit)).version bound) ≡ true
        → IsBetween u n bound e (bit + 1) high
    goes_up before_it =
        record {
          order = omega arith;
          within = is.within;
          below = λ b lt. before_below u order n bound e b bit (omega arith)
              (omega (arith, is.within)) before_it;
          above = is.above;
        }

    pub goes_down : is_before e (text_cmp (package_of u (variant n bit)).version bound) ≡ false
        → IsBetween u n bound e low bit
    goes_down behind =
        record {
          order = from;
          within = omega (arith, is.within);
          below = is.below;
          above = λ b ge lt. elim (cases_Bool (before u order n bound e b)) [
            | inl here ↦ absurd (both_ways _ behind
                (before_below u order n bound e bit b ge lt here))
            | inr there ↦ there
          ];
        }

  pub is_count : (count : ℕ) (high : ℕ) → high ≤ count → IsBetween u n bound e count high
      → IsCountBefore u n bound e count
  is_count count high le is =
      record {
        within = omega (arith, is.within, is.order);
        before = λ b lt. elim (cases_lt b count) [
          | inl low ↦ is.below b low ∙ sym (lt-ltb b count low)
          | inr ge ↦ is.above b (omega (arith, is.order)) lt ∙ sym (not_lt b count ge)
        ];
      }

-- of two variants of a name the one before has the earlier version
pub rises : (u : Universe) → IsInOrder u → (n a b : ℕ) → a < b → b < variants u n
    → text_cmp (package_of u (variant n a)).version (package_of u (variant n b)).version ≡ Less
rises u order n a zero lt there = absurd (omega (arith, lt))
rises u order n a (suc b) lt there =
    let version = λ (k : ℕ). (package_of u (variant n k)).version in
    elim (cases_lt a b) [
      | inl below ↦
          text_cmp_total.trans (version a) (version b) (version (suc b))
          (rises u order n a b below (omega (arith, there))) (order.rising n b there)
      | inr ge ↦
          subst (λ k. text_cmp (version k) (version (suc b)) ≡ Less)
          (let same : b ≡ a = omega (arith, lt, ge) in same) (order.rising n b there)
    ]

-- those ahead of one that is as early as a version are earlier, and those behind it later
module _ (u : Universe) (order : IsInOrder u) (n : ℕ) (bound : List ℕ) (bit : ℕ)
    (there : bit < variants u n)
    (same : text_cmp (package_of u (variant n bit)).version bound ≡ Equal) where
  abbrev to_bound : ℕ → Ordering
  to_bound b = text_cmp (package_of u (variant n b)).version bound

  as_to_bit : (b : ℕ)
      → text_cmp (package_of u (variant n b)).version (package_of u (variant n bit)).version
      ≡ to_bound b
  as_to_bit b =
      alike_right text_cmp_total (package_of u (variant n bit)).version bound
      (package_of u (variant n b)).version same

  is_less : (b : ℕ) → b < bit → to_bound b ≡ Less
  is_less b lt = sym (as_to_bit b) ∙ rises u order n b bit lt there

  is_greater : (b : ℕ) → bit < b → b < variants u n → to_bound b ≡ Greater
  is_greater b lt inside =
      sym (as_to_bit b)
      ∙ text_cmp_total.antisymm (package_of u (variant n b)).version
      (package_of u (variant n bit)).version
      ∙ ap ordering_reverse (rises u order n bit b lt inside)

  pub equal_earlier : IsCountBefore u n bound false bit
  equal_earlier =
      record {
        within = omega (arith, there);
        before = λ b inside. elim (cases_lt b bit) [
          | inl low ↦ ap (is_before false) (is_less b low) ∙ sym (lt-ltb b bit low)
          | inr ge ↦ elim (cases_lt bit b) [
            | inl high ↦
                ap (is_before false) (is_greater b high inside) ∙ sym (not_lt b bit ge)
            | inr le ↦
                ap (is_before false)
                (subst (λ k. to_bound k ≡ Equal)
                (let here : bit ≡ b = omega (arith, ge, le) in here) same)
                ∙ sym (not_lt b bit ge)
          ]
        ];
      }

  pub equal_or_earlier : IsCountBefore u n bound true (bit + 1)
  equal_or_earlier =
      record {
        within = omega (arith, there);
        before = λ b inside. elim (cases_lt bit b) [
          | inl high ↦
              ap (is_before true) (is_greater b high inside)
              ∙ sym (not_lt b (bit + 1) (omega (arith, high)))
          | inr le ↦ elim (cases_lt b bit) [
            | inl low ↦
                ap (is_before true) (is_less b low)
                ∙ sym (lt-ltb b (bit + 1) (omega (arith, le)))
            | inr ge ↦
                ap (is_before true)
                (subst (λ k. to_bound k ≡ Equal)
                (let here : bit ≡ b = omega (arith, ge, le) in here) same)
                ∙ sym (lt-ltb b (bit + 1) (omega (arith, le)))
          ]
        ];
      }

-- what is no name has no variants
pub none_counted : (u : Universe) (n : ℕ) (bound : List ℕ) (e : Bool) → names u ≤ n
    → IsCountBefore u n bound e 0
none_counted u n bound e past =
    let none = no_variants u n past in
    record { within = omega arith; before = λ b lt. absurd (omega (arith, none)) }

-- bits between two places, as powers of 2 apart
pub bits_apart : (low high : ℕ) → low ≤ high → (2 ^ high - 1) - (2 ^ low - 1) ≡ 2 ^ high - 2 ^ low
bits_apart low high le = omega (arith, pow_pos low, pow_pos high)

pub powers_rise : (low high : ℕ) → low ≤ high → 2 ^ low - 1 ≤ 2 ^ high - 1
powers_rise low high le =
    let rise : 2 ^ low ≤ 2 ^ high = pow-le-pow_right (lit< tt) le in omega (arith, rise)

pub bits_between : (low high b : ℕ)
    → word_has (2 ^ high - 2 ^ low) b ≡ (not (nat_lt b low) && nat_lt b high)
bits_between low high b =
    elim (cases_lt b low) [
      | inl below ↦
          ap (λ k. k == 1) (bit_at_mask_below low high b below)
          ∙ sym (ap (λ t. not t && nat_lt b high) (lt-ltb b low below))
      | inr ge ↦ elim (cases_lt b high) [
        | inl inside ↦
            ap (λ k. k == 1) (bit_at_mask_inside low high b ge inside)
            ∙ sym (ap (λ t. not t && nat_lt b high) (not_lt b low ge) ∙ lt-ltb b high inside)
        | inr above ↦
            ap (λ k. k == 1) (bit_at_mask_above low high b above)
            ∙ sym (ap (λ t. not t && nat_lt b high) (not_lt b low ge) ∙ not_lt b high above)
      ]
    ]

less_or_equal : (o : Ordering) → is_lt o ≡ true → is_le o ≡ true
less_or_equal Less is = refl
less_or_equal Equal is = refl
less_or_equal Greater is = is

-- the ranges of relations
pub none_wanted : (u : Universe) (n b count word : ℕ) → count ≡ variants u n
    → word_has word b ≡ (not (nat_lt b 0) && nat_lt b count)
    → word_has word b ≡ variant_passes u (is_wanted u None) n b
unfolding is_wanted
none_wanted u n b count word is bits =
    bits
    ∙ ap (λ t. not t && nat_lt b count) (not_lt b 0 (omega arith))
    ∙ ap (nat_lt b) is
    ∙ sym (and-true (nat_lt b (variants u n)))

module _ (u : Universe) (n : ℕ) (bound : List ℕ) (op : Op) where
  pub up_to : (e : Bool) (count : ℕ) → ((o : Ordering) → admits op o ≡ is_before e o)
      → IsCountBefore u n bound e count → IsRange u n (Some (op, bound)) 0 count
  unfolding is_wanted
  up_to e count agree is =
      record {
        order = omega arith;
        within = is.within;
        each = λ b lt.
            agree (text_cmp (package_of u (variant n b)).version bound) ∙ is.before b lt
            ∙ sym (ap (λ t. not t && nat_lt b count) (not_lt b 0 (omega arith)));
      }

  pub on_from : (e : Bool) (count high : ℕ) → ((o : Ordering) → admits op o ≡ not (is_before e o))
      → IsCountBefore u n bound e count → high ≡ variants u n
      → IsRange u n (Some (op, bound)) count high
  unfolding is_wanted
  on_from e count high agree is all =
      record {
        order = omega (arith, is.within, all);
        within = omega (arith, all);
        each = λ b lt.
            agree (text_cmp (package_of u (variant n b)).version bound) ∙ ap not (is.before b lt)
            ∙ sym (and-true (not (nat_lt b count)))
            ∙ ap (λ t. not (nat_lt b count) && t) (sym (lt-ltb b high (omega (arith, all))));
      }

  pub between : (low high : ℕ) → ((o : Ordering) → admits op o ≡ (not (is_lt o) && is_le o))
      → IsCountBefore u n bound false low → IsCountBefore u n bound true high
      → IsRange u n (Some (op, bound)) low high
  unfolding is_wanted
  between low high agree first last =
      record {
        order = elim (cases_lt high low) [
          | inl wrong ↦
              let lt : high < variants u n = omega (arith, first.within) in
              let o = text_cmp (package_of u (variant n high)).version bound in
              absurd (both_ways _ (last.before high lt ∙ not_lt high high (omega arith))
              (less_or_equal o (first.before high lt ∙ lt-ltb high low wrong)))
          | inr le ↦ le
        ];
        within = last.within;
        each = λ b lt.
            let o = text_cmp (package_of u (variant n b)).version bound in
            agree o ∙ ap (λ t. not t && is_le o) (first.before b lt)
            ∙ ap (λ t. not (nat_lt b low) && t) (last.before b lt);
      }

pub as_earlier : (o : Ordering) → admits Earlier o ≡ is_before false o
as_earlier o = refl

pub as_earlier_or_equal : (o : Ordering) → admits EarlierOrEqual o ≡ is_before true o
as_earlier_or_equal o = refl

pub as_equal : (o : Ordering) → admits SameVersion o ≡ (not (is_lt o) && is_le o)
as_equal Less = refl
as_equal Equal = refl
as_equal Greater = refl

pub as_later_or_equal : (o : Ordering) → admits LaterOrEqual o ≡ not (is_before false o)
as_later_or_equal Less = refl
as_later_or_equal Equal = refl
as_later_or_equal Greater = refl

pub as_later : (o : Ordering) → admits Later o ≡ not (is_before true o)
as_later Less = refl
as_later Equal = refl
as_later Greater = refl
