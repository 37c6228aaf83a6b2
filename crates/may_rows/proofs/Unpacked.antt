-- An unpack by the words: what it may meet, and the map after it.
use Rattle.std.proofs.Common.{◌≡◌, ◌≢◌, ◌⊎◌, inl, inr, ℕ, ◌+◌, ◌<◌, Bool, true, false, not, ◌&&◌, ◌==◌, List, [], ◌∷◌, Option, Some, None, refl, sym, ap, ◌∙◌, if◌then◌else◌}
use Rattle.std.specs.Prelude.{nat_lt, slice_index}
use Rattle.std.proofs.lemmas.Bool.{cases_Bool, cases_eq, eq-eqb, eqb-true, ne_eqb, both_ways}
use Rattle.clause_kernel.specs.Rows.{word_has}
use Rattle.clause_kernel.proofs.Words.{word_has_zero}
use Rattle.deb_relation.specs.Relations.{Relations}
use Rattle.deb_relation.specs.declared.operator.Op.{Op}
use Rattle.farm_model.specs.Common.{unmet, first_trap, Universe, variant, names, pre_depends, breaks, conflict}
use Rattle.farm_model.specs.declared.types.Variant.{Variant}
use Rattle.farm_model.specs.declared.types.Trap.{Trap}
use Rattle.farm_model.specs.declared.types.Trap.TheVariants.{PreDepends, Conflict, BreaksOther, Full, OverBudget}
use Rattle.farm_model.proofs.BelowLaws.{some_below-same}
use Rattle.plan_model.specs.Common.{Lane, capacity, newest, Bits, MaySlot, MayAbsent, MayUnpacked, May, some_of, some_name, may_hold, may_hold_configured, surely_pre_met, greatest_size, may_use, may_be_last, may_unpack, may_after, greatest_cost, may_exceed, unpack_risk, unpack_risks, risk}
use Rattle.plan_model.specs.declared.instructions.Instruction.TheVariants.{Unpack}
use Rattle.may_rows.specs.Picks.{IsPick}
use Rattle.may_rows.specs.Unpacks.{cleared_risks}
use Rattle.may_rows.specs.Words.{Words, slot_of, may_of, joined_word, AreOfName, AreWords, with_slot, may_spend, surely_met_ahead}
use Rattle.may_rows.proofs.MetAhead.{ahead-absent, any-same}

-- ---- the tests do not look at the slot of the name

module _ (u : Universe) (m : May) (name : ℕ) where
  abbrev cleared : May
  cleared = with_slot m name MayAbsent

  abbrev other : (ℕ → MaySlot → Bool) → Bool
  other p = some_name u cleared (λ n s. not (n == name) && p n s)

  other-is : (p : ℕ → MaySlot → Bool)
      → other p ≡ some_name u m (λ n s. not (n == name) && p n s)
  other-is p = some_below-same (names u) _ _ (λ n lt. by n (n == name))
    where
      by : (n : ℕ) (same : Bool)
          → (not same && p n (if same then MayAbsent else m.slots n))
          ≡ (not same && p n (m.slots n))
      by n true = refl
      by n false = refl

  unmet-is : (es : Relations) → unmet (surely_met_ahead u cleared) es
      ≡ unmet (surely_pre_met u name m) es
  unmet-is es = any-same _ _ es (λ e. ap not (ahead-absent u m name e))

  pub cleared-is : (of : Lane) (set : Bits)
      → cleared_risks u of cleared (may_use u m) name set ≡ unpack_risks u of m name set
  cleared-is of set = λ i.
      (may_exceed of m (greatest_cost u name set), OverBudget)
      ∷ (some_of u name set (λ b. unmet-is (pre_depends u (variant name b)) i), PreDepends)
      ∷ (
        some_of u name set
            (λ b. other-is (λ n s. may_hold u n (λ d. conflict u (variant name b) (variant n d)) s)
            i),
        Conflict,
      )
      ∷ (
        some_of u name set
            (λ b. other-is
            (λ n s. may_hold_configured u n (λ d. breaks u (variant name b) (variant n d)) s) i),
        BreaksOther,
      )
      ∷ (nat_lt (capacity u of) (may_use u m + greatest_size u name set), Full)
      ∷ []

-- ---- the words after it

-- the word of what was configured last
last-is : (count here ready last both : ℕ) → AreOfName count here ready last both
    → word_has last ≡ may_be_last (slot_of here ready last)
last-is count here ready last both is =
    by (cases_Bool (here == 0)) (cases_Bool (ready == 0)) is.phase
  where
    by : ((here == 0) ≡ true) ⊎ ((here == 0) ≡ false)
        → ((ready == 0) ≡ true) ⊎ ((ready == 0) ≡ false)
        → (ready ≡ 0) ⊎ ((ready ≡ here) × (last ≡ here))
        → word_has last ≡ may_be_last (slot_of here ready last)
    by (inl z) r c =
        rw z (λ i. λ b. (ap (λ k. word_has k b) (is.absent (eqb-true here 0 z)) ∙ word_has_zero b)
        i)
    by (inr h) (inl r) c = rw (h, r) refl
    by (inr h) (inr r) (inl none) = absurd (both_ways _ r (eq-eqb ready 0 none))
    by (inr h) (inr r) (inr same) = rw (h, r) (ap word_has same.1)

-- the words of a name that is absent, and of one that is unpacked
pub none-words : (count : ℕ) → AreOfName count 0 0 0 (joined_word 0 0)
none-words count = record {
  phase = inl refl;
  absent = λ e. refl;
  here_known = λ b has. absurd (both_ways _ (word_has_zero b) has);
  last_known = λ b has. absurd (both_ways _ (word_has_zero b) has);
  joined = refl;
}

pub unpacked-words : (count here ready last both set : ℕ) → AreOfName count here ready last both
    → set ≢ 0 → ((b : ℕ) → word_has set b ≡ true → b < count)
    → AreOfName count set 0 last (joined_word set last)
unpacked-words count here ready last both set is some known = record {
  phase = inl refl;
  absent = λ none. absurd (some none);
  here_known = known;
  last_known = is.last_known;
  joined = refl;
}

module _ (u : Universe) (known there : Variant → Bool) (name : ℕ) (wanted : Option (Op × List ℕ))
    (m : May) where
  pub risk-missing : (of : Lane) → newest u known name wanted ≡ None
      → risk u of known there m (Unpack name wanted) ≡ Some Trap.Missing
  risk-missing of none = ap (unpack_risk u there of m name wanted) none

  module _ (set : ℕ) (pick : IsPick u known there name wanted (Some set)) where
    pub risk-is : (of : Lane)
        → risk u of known there m (Unpack name wanted)
        ≡ first_trap (cleared_risks u of (with_slot m name MayAbsent) (may_use u m) name
        (word_has set))
    risk-is of =
        ap (unpack_risk u there of m name wanted) pick.1
        ∙ ap (λ bits. first_trap (unpack_risks u of m name bits)) (sym pick.2)
        ∙ ap first_trap (sym (cleared-is u m name of (word_has set)))

    abbrev with_set : Bits → May
    with_set bits = record {
      slots = λ n. if n == name then MayUnpacked bits (may_be_last (m.slots n)) else m.slots n;
      cost = m.cost + greatest_cost u name bits;
      built = m.built;
    }

    -- the name's slot written twice, and the cost
    after-is : (last : ℕ) → set ≢ 0 → word_has last ≡ may_be_last (m.slots name)
        → may_spend (with_slot (with_slot m name MayAbsent) name (slot_of set 0 last))
        (greatest_cost u name (word_has set))
        ≡ with_set (word_has set)
    after-is last some is_last = λ i. record {
      slots = λ n. at n i;
      cost = m.cost + greatest_cost u name (word_has set);
      built = m.built;
    }
      where
        at : (n : ℕ)
            → (if n == name then slot_of set 0 last
            else (if n == name then MayAbsent else m.slots n))
            ≡ (if n == name then MayUnpacked (word_has set) (may_be_last (m.slots n)) else m.slots
            n)
        at n =
            elim (cases_eq n name) [
              | inl same ↦
                  rw (eq-eqb n name same, ne_eqb set 0 some)
                  (ap (λ bits. MayUnpacked (word_has set) bits)
                  (is_last ∙ ap (λ k. may_be_last (m.slots k)) (sym same)))
              | inr different ↦ rw (ne_eqb n name different) refl
            ]

    pub then-is : (last : ℕ) → set ≢ 0 → word_has last ≡ may_be_last (m.slots name)
        → may_after u known there m (Unpack name wanted)
        ≡ may_spend (with_slot (with_slot m name MayAbsent) name (slot_of set 0 last))
        (greatest_cost u name (word_has set))
    then-is last some is_last =
        ap (may_unpack u there m name wanted) pick.1
        ∙ ap with_set (sym pick.2)
        ∙ sym (after-is last some is_last)

pub last-word : (u : Universe) (w : Words) (is : AreWords u w) (name : ℕ)
    → word_has (slice_index w.last name) ≡ may_be_last ((may_of w).slots name)
last-word u w is name = last-is _ _ _ _ _ (is.each name)

-- the tests of equal maps and spaces
pub same_risks : (u : Universe) (of : Lane) (m k : May) (used was name : ℕ) (set : Bits) → m ≡ k
    → used ≡ was
    → first_trap (cleared_risks u of m used name set)
    ≡ first_trap (cleared_risks u of k was name set)
same_risks u of m k used was name set same_map same_use =
    λ i. first_trap (cleared_risks u of (same_map i) (same_use i) name set)
