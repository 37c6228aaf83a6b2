-- Where an instruction may meet a trap there is a reason: each test of Risk passes just where its
-- reasons are some.
use Rattle.std.proofs.Common.{◌≡◌, ◌≢◌, inl, inr, ℕ, zero, suc, Bool, true, false, not, ◌&&◌, ◌||◌, ◌==◌, List, [], ◌∷◌, length, Option, Some, None, refl, sym, ap, ◌∙◌, if◌then◌else◌, drop, filter, is_some, map, slice_get}
use Rattle.std.specs.List.{flat_map, list_any}
use Rattle.std.proofs.Math.Bool.{and-true, and-false, or-false, or_comm}
use Rattle.std.proofs.lemmas.Bool.{cases_Bool, false≢true}
use Rattle.std.proofs.lemmas.Option.{none-some, same_Some}
use Rattle.std.proofs.lemmas.List.Folds.{list_any-append}
use Rattle.deb_relation.specs.Relations.{Entry, Relations}
use Rattle.deb_relation.specs.declared.operator.Op.{Op}
use Rattle.farm_model.specs.Common.{some_below, member, Universe, variant, names, variants, satisfies_entry, first_trap}
use Rattle.farm_model.specs.declared.types.Variant.{Variant}
use Rattle.farm_model.specs.declared.types.Trap.{Trap}
use Rattle.farm_model.proofs.BelowLaws.{some_below-none}
use Rattle.farm_model.proofs.TestLaws.{eqb-turned}
use Rattle.plan_model.specs.Common.{Lane, Plan, lane, instruction_at, Rows, possible, may_at, risk_of, risk_at, newest, Bits, MaySlot, MayAbsent, MayUnpacked, MayConfigured, May, some_of, some_name, may_hold, may_hold_configured, surely_configured, surely_met, surely_pre_met, candidates, may_meet, surely_met_outside, may_be_needed, may_be_unsettled, risk}
use Rattle.plan_model.specs.declared.instructions.Instruction.{Instruction}
use Rattle.plan_model.specs.declared.instructions.Instruction.TheVariants.{Unpack, Configure, Deconfigure, Remove, Build, Publish}
use Rattle.plan_model.specs.Risk as risks
use Rattle.sat_rows.specs.Rows.{nth_entry}
use Rattle.may_rows.proofs.ByNumber.{any-numbers}
use Rattle.may_rows.proofs.Configured.{unmet-after}
use Rattle.may_rows.proofs.MetAhead.{ahead-absent}
use Rattle.may_rows.specs.Words.{surely_met_ahead, with_slot}
use Rattle.explain_reasons.specs.declared.held.Phase.{Phase}
use Rattle.explain_reasons.specs.declared.types.Reason.{Reason}
use Rattle.explain_reasons.specs.Listed.{all_below, held_in, held_members, held_names, one_if, passing, variants_in}
use Rattle.explain_reasons.specs.Reasons as reasons
use Rattle.explain_reasons.specs.Reasons.{of_members, outside, reason_at, reasons_at}

-- ---- tests of lists

module _ {A : Type 0} (p : A → Bool) where
  any-below : (n : ℕ) (f : ℕ → List A)
      → list_any p (all_below n f) ≡ some_below n (λ k. list_any p (f k))
  any-below zero f = refl
  any-below (suc n) f =
      list_any-append p (all_below n f) (f n)
      ∙ ap (λ t. t || list_any p (f n)) (any-below n f)
      ∙ or_comm (some_below n (λ k. list_any p (f k))) (list_any p (f n))

  any-of : {X : Type 0} (f : X → List A) (xs : List X)
      → list_any p (flat_map f xs) ≡ list_any (λ x. list_any p (f x)) xs
  any-of f [] = refl
  any-of f (x ∷ xs) =
      list_any-append p (f x) (flat_map f xs) ∙ ap (λ t. list_any p (f x) || t) (any-of f xs)

  any-one : (t : Bool) (x : A) → list_any p (one_if t x) ≡ (t && p x)
  any-one true x = or-false (p x)
  any-one false x = refl

  any-filter : (q : A → Bool) (xs : List A)
      → list_any p (filter q xs) ≡ list_any (λ x. q x && p x) xs
  any-filter q [] = refl
  any-filter q (x ∷ xs) = elim (cases_Bool (q x)) [
    | inl passes ↦ rw passes (ap (λ r. p x || r) (any-filter q xs))
    | inr fails ↦ rw fails (any-filter q xs)
  ]

  any-map : {X : Type 0} (f : X → A) (xs : List X)
      → list_any p (map f xs) ≡ list_any (λ x. p (f x)) xs
  any-map f [] = refl
  any-map f (x ∷ xs) = ap (λ t. p (f x) || t) (any-map f xs)

-- ---- some reasons

abbrev some : List Reason → Bool
some = list_any (λ r. true)

is_some-first : (xs : List Reason) → is_some (slice_get xs 0) ≡ some xs
is_some-first [] = refl
is_some-first (x ∷ xs) = refl

some-passing : (es : Relations) (p : Entry → Bool) (told : ℕ → Reason)
    → some (passing es p told) ≡ list_any p es
unfolding passing
some-passing es p told =
    any-below (λ r. true) (length es) (λ i. one_if (p (nth_entry es i)) (told i))
    ∙ simp (any-one, and-true, any-numbers p [] es)

-- ---- what may be held

module _ (p : Variant → Bool) (u : Universe) where
  any-in : (n : ℕ) (set : Bits)
      → list_any p (variants_in u n set) ≡ some_of u n set (λ b. p (variant n b))
  unfolding variants_in
  any-in n set =
      any-below p (variants u n) (λ b. one_if (set b) (variant n b)) ∙ simp any-one

  any-present : (n : ℕ) (s : MaySlot)
      → list_any p (held_in u Phase.Present n s) ≡ may_hold u n (λ b. p (variant n b)) s
  unfolding held_in
  any-present n MayAbsent = refl
  any-present n (MayUnpacked current last) = any-in n current
  any-present n (MayConfigured current) = any-in n current

  any-configured : (n : ℕ) (s : MaySlot)
      → list_any p (held_in u Phase.Configured n s)
      ≡ may_hold_configured u n (λ b. p (variant n b)) s
  unfolding held_in
  any-configured n MayAbsent = refl
  any-configured n (MayUnpacked current last) = refl
  any-configured n (MayConfigured current) = any-in n current

  any-names : (phase : Phase) (m : May) → list_any p (held_names u phase m)
      ≡ some_name u m (λ n s. list_any p (held_in u phase n s))
  unfolding held_names
  any-names phase m = any-below p (names u) (λ n. held_in u phase n (m.slots n))

  any-members : (members : List ℕ) (m : May) → list_any p (held_members u members m)
      ≡ list_any (λ k. list_any p (held_in u Phase.Present k (m.slots k))) members
  unfolding held_members
  any-members members m = any-of p (λ n. held_in u Phase.Present n (m.slots n)) members

-- a test of the name alone
module _ (u : Universe) (n : ℕ) (p : Bits) where
  apart-of : (t : Bool) (set : Bits) → some_of u n set (λ b. t && p b) ≡ (t && some_of u n set p)
  apart-of true set = refl
  apart-of false set =
      some_below-none (variants u n) (λ b. set b && false) (λ b lt. and-false (set b))

  apart-held : (t : Bool) (s : MaySlot) → may_hold u n (λ b. t && p b) s ≡ (t && may_hold u n p s)
  apart-held t MayAbsent = sym (and-false t)
  apart-held t (MayUnpacked current last) = apart-of t current
  apart-held t (MayConfigured current) = apart-of t current

  apart-configured : (t : Bool) (s : MaySlot)
      → may_hold_configured u n (λ b. t && p b) s ≡ (t && may_hold_configured u n p s)
  apart-configured t MayAbsent = sym (and-false t)
  apart-configured t (MayUnpacked current last) = sym (and-false t)
  apart-configured t (MayConfigured current) = apart-of t current

  other-held : (k : ℕ) (s : MaySlot) → may_hold u n (λ b. not ((variant n b).name == k) && p b) s
      ≡ (not (n == k) && may_hold u n p s)
  other-held k = apart-held (not (n == k))

  other-configured : (k : ℕ) (s : MaySlot)
      → may_hold_configured u n (λ b. not ((variant n b).name == k) && p b) s
      ≡ (not (n == k) && may_hold_configured u n p s)
  other-configured k = apart-configured (not (n == k))

ruleset lists = (list_any-append, any-of, any-one, any-map, and-true, some-passing, any-in, any-present, any-configured, any-names, any-members, other-held, other-configured)

-- ---- maps in which slots are changed

module _ (u : Universe) (members : List ℕ) (m : May) where
  outside-sure : (n : ℕ) (p : Bits) (is : Bool) (s : MaySlot)
      → surely_configured u n p (if is then MayAbsent else s)
      ≡ (not is && surely_configured u n p s)
  outside-sure n p true s = refl
  outside-sure n p false s = refl

  outside-met : (e : Entry) → surely_met u (outside members m) e ≡ surely_met_outside u members m e
  unfolding surely_met surely_met_outside
  outside-met e = simp outside-sure

  -- a configured member may meet an entry
  members-meet : (e : Entry)
      → list_any (satisfies_entry u e) (of_members u Phase.Configured members m)
      ≡ may_meet u members m e
  unfolding may_meet
  members-meet e =
      any-filter (satisfies_entry u e) (λ v. member members v.name)
      (held_names u Phase.Configured m)
      ∙ simp lists (λ i. some_name u m (λ n s. apart-configured u n
      (λ b. satisfies_entry u e (variant n b)) (member members n) s i))

  outside-held : (p : Bits) (is : Bool) (n : ℕ) (s : MaySlot)
      → may_hold_configured u n p (if is then MayAbsent else s)
      ≡ (not is && may_hold_configured u n p s)
  outside-held p true n s = refl
  outside-held p false n s = refl

  still_needed-some : some (reasons.needing u Phase.Configured Phase.Configured members m)
      ≡ may_be_needed u members m
  unfolding may_be_needed
  still_needed-some = simp (lists, outside-held, members-meet, outside-met)

-- a name that is taken out meets nothing ahead of its unpack
ahead-outside : (u : Universe) (m : May) (name : ℕ) (e : Entry)
    → surely_met_ahead u (outside (name ∷ []) m) e ≡ surely_pre_met u name m e
ahead-outside u m name e =
    let same : outside (name ∷ []) m ≡ with_slot m name MayAbsent =
    simp (or-false, eqb-turned name) in
    ap (λ k. surely_met_ahead u k e) same ∙ ahead-absent u m name e

-- ---- lists of tests

-- where each test passes just where its trap has a reason, the first that passes has one
has : (f : Trap → List Reason) (tests : List (Bool × Trap))
    → map (λ test. (some (f test.1), test.1)) tests ≡ tests → (t : Trap)
    → first_trap tests ≡ Some t → some (f t) ≡ true
unfolding first_trap
has f [] same t is = absurd (none-some t is)
has f ((true, s) ∷ rest) same t is =
    ap (λ k. some (f k)) (sym (same_Some s t is))
    ∙ ap (λ (test : Bool × Trap). test.0) (same_Some _ _ (ap (λ xs. slice_get xs 0) same))
has f ((false, s) ∷ rest) same t is = has f rest (ap (drop 1) same) t is

module _ (u : Universe) (of : Lane) (m : May) where
  unsettled-some : some (all_below (names u) (reasons.unsettled u m)) ≡ may_be_unsettled u m
  unfolding may_be_unsettled
  unsettled-some = simp (any-below, lists, or-false)

  module _ (known there : Variant → Bool) (t : Trap) where
    pick-has : (name : ℕ) (wanted : Option (Op × List ℕ)) (highest : Option ℕ)
        → risks.unpack_risk u there of m name wanted highest ≡ Some t
        → some (reasons.pick_reasons u there of m name wanted highest t) ≡ true
    pick-has name wanted None is =
        ap (λ k. some (reasons.pick_reasons u there of m name wanted None k))
        (sym (same_Some Trap.Missing t is))
    pick-has name wanted (Some highest) is =
        has (reasons.unpack_reasons u of m name (candidates u there name wanted highest)) _
        (simp (lists, ahead-outside u m name)) t is

    -- where an instruction may meet a trap first, there is a reason for it
    has-reason : (x : Instruction) → risk u of known there m x ≡ Some t
        → some (reasons.reasons u of known there m x t) ≡ true
    has-reason (Unpack name wanted) is = pick-has name wanted (newest u known name wanted) is
    has-reason (Configure members) is =
        has (reasons.configure_reasons u of m members) _
        (simp (lists, any-filter, unmet-after u members m)) t is
    has-reason (Deconfigure members) is =
        has (reasons.withdraw_reasons u of m Phase.Configured members) _
        (rw (still_needed-some u members m) (simp (lists, any-filter))) t is
    has-reason (Remove members) is =
        has (reasons.withdraw_reasons u of m Phase.Present members) _
        (rw (still_needed-some u members m) (simp (lists, any-filter))) t is
    has-reason (Build r) is =
        has (reasons.build_reasons u of m r) _ (rw unsettled-some (simp lists)) t is
    has-reason (Publish r) is = has (reasons.publish_reasons u of m r) _ (simp lists) t is
    has-reason _ is = absurd (none-some t is)

module _ (u : Universe) (p : Plan) (rows : Rows) (l i : ℕ) (t : Trap) where
  of_some : (o : Option Instruction) → risk_of u p rows l i o ≡ Some t
      → some (reasons.reasons_of u p rows l i o t) ≡ true
  of_some None is = absurd (none-some t is)
  of_some (Some x) is =
      has-reason u (lane p l) (may_at u p rows l i) (rows l i) (possible u p l i) t x is

  -- the same at a place of a plan
  pub has-reason-at : risk_at u p rows l i ≡ Some t → is_some (reason_at u p rows l i t) ≡ true
  unfolding risk_at reasons_at
  has-reason-at is =
      is_some-first (reasons_at u p rows l i t) ∙ of_some (instruction_at p l i) is

  -- so the list of them is not empty
  pub not-empty : (found : List Reason) → found ≡ reasons_at u p rows l i t
      → risk_at u p rows l i ≡ Some t → found ≢ []
  not-empty found is risky empty =
      false≢true (ap (λ xs. is_some (slice_get xs 0)) (sym empty ∙ is) ∙ has-reason-at risky)

  -- what is told at a place, by the words of what may be held there
  pub reasons-at : (x : Instruction) (m : May) → instruction_at p l i ≡ Some x
      → may_at u p rows l i ≡ m
      → reasons.reasons u (lane p l) (rows l i) (possible u p l i) m x t ≡ reasons_at u p rows l i t
  unfolding reasons_at
  reasons-at x m is same =
      ap (λ (k : May). reasons.reasons u (lane p l) (rows l i) (possible u p l i) k x t) (sym same)
      ∙ ap (λ o. reasons.reasons_of u p rows l i o t) (sym is)
