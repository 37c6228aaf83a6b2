-- A plan in which another unpack stands at the place of one: what is unsafe in it.
use Rattle.std.proofs.Common.{◌≡◌, ◌≢◌, inl, inr, ℕ, zero, suc, Bool, true, false, not, ◌||◌, List, [], ◌∷◌, length, take, Option, Some, None, refl, sym, ap, ◌∙◌, subst, arith, Result, Ok, Err, OnOk, is_some, is_ok, slice_get, slice_set, get_or-set_same, get_or-set_other, length-set}
use Rattle.std.specs.List.{list_any}
use Rattle.std.proofs.lemmas.Bool.{cases_eq, false≢true, ne_eqb, eq-eqb}
use Rattle.std.proofs.lemmas.Option.{none-some, same_Some}
use Rattle.deb_relation.specs.declared.operator.Op.{Op}
use Rattle.farm_model.specs.Common.{Universe, initial}
use Rattle.farm_model.specs.declared.types.Trap.{Trap}
use Rattle.farm_model.specs.declared.types.Variant.{Variant}
use Rattle.farm_model.proofs.BelowLaws.{some_below-same}
use Rattle.may_rows.specs.Met.{Doubt, AreDoubts}
use Rattle.may_rows.specs.Walk.{Answers, IsOfLane}
use Rattle.may_rows.specs.Words.{Words, may_of}
use Rattle.plan_model.specs.Common.{Side, Outside, side_behind_some, side_at, may_stand, IsBranched, Rows, gives, within_reach, possible, maps_at, may_after, start_maps, May, Lane, Plan, no_lane, lane, instruction_at, capacity, risk, Meets, Parts, IsInstruction, IsPlan, newest}
use Rattle.plan_model.specs.declared.instructions.Instruction.{Instruction}
use Rattle.plan_model.specs.declared.instructions.Instruction.TheVariants.{Unpack, When, Otherwise, EndWhen}
use Rattle.plan_model.specs.Risk as risks
use Rattle.plan_verifier.proofs.Branching.{begin-at, turn-at, end-at, parts-at, held-at, step-at, risk-at, when-safe, else-safe}
use Rattle.plan_verifier.specs.Branch.{turned, IsAt, IsBehindEnd, IsBranch, IsBranchEnd}
use Rattle.plan_verifier.specs.declared.branch.Branch.{Branch}
use Rattle.plan_verifier.specs.declared.branch.LaneMay.{LaneMay}
use Rattle.plan_verifier.specs.Walk.{is_plain}
use Rattle.explain_reasons.specs.Pins.{is_unpack, pinned, pinned_unpack, IsPinned, IsTried}
use Rattle.explain_reasons.specs.declared.pins.Pin.{Pin}

-- ---- a list in which another instruction stands in place of an unpack

-- an unpack neither begins nor ends a branch, and gives nothing
plain : (k : ℕ) (s : Side) (o : Option Instruction) → is_unpack o ≡ true
    → side_behind_some k s o ≡ s
plain k s (Some (Unpack name wanted)) is = refl
plain k s _ is = absurd (false≢true is)

gives_none : (u : Universe) (v : Variant) (x : Instruction) → is_unpack (Some x) ≡ true
    → gives u v x ≡ false
gives_none u v (Unpack name wanted) is = refl
gives_none u v _ is = absurd (false≢true is)

stands : (u : Universe) (v : Variant) (s : Side) → may_stand s (pinned_unpack u v) ≡ true
stands u v Outside = refl
stands u v s = refl

-- what holds of the other instruction at its place holds of each, where it does of the others
swapped : (xs : List Instruction) (k : ℕ) (x : Instruction) → is_unpack (slice_get xs k) ≡ true
    → (P : ℕ → Option Instruction → Type 0) → P k (Some x)
    → ((i : ℕ) → i ≢ k → P i (slice_get xs i)) → (i : ℕ) → P i (slice_get (slice_set xs k x) i)
swapped [] k x old P here other i = absurd (false≢true old)
swapped (y ∷ xs) zero x old P here other zero = here
swapped (y ∷ xs) zero x old P here other (suc i) = other (suc i) (λ e. absurd (omega (arith, e)))
swapped (y ∷ xs) (suc k) x old P here other zero = other zero (λ e. absurd (omega (arith, e)))
swapped (y ∷ xs) (suc k) x old P here other (suc i) =
    swapped xs k x old (λ j. P (suc j)) here (λ j d. other (suc j) (λ e. d (omega (arith, e)))) i

any-set : (u : Universe) (v w : Variant) (xs : List Instruction) (k : ℕ)
    → is_unpack (slice_get xs k) ≡ true → (n : ℕ)
    → list_any (gives u v) (take n (slice_set xs k (pinned_unpack u w)))
    ≡ list_any (gives u v) (take n xs)
any-set u v w xs k old zero = refl
any-set u v w [] k old (suc n) = refl
any-set u v w (z ∷ xs) zero old (suc n) = rw (gives_none u v z old) refl
any-set u v w (z ∷ xs) (suc k) old (suc n) =
    ap (λ t. gives u v z || t) (any-set u v w xs k old n)

-- ---- the plan

module _ {u : Universe} {p : Plan} {l : ℕ} {pin : Pin} {z : Instruction}
    (stood : IsPinned u p l pin z) where
  abbrev next : Plan
  next = pinned u p l pin

  abbrev x : Instruction
  x = pinned_unpack u pin.variant

  abbrev zs : List Instruction
  zs = (lane p l).instructions

  abbrev with_x : Lane
  with_x = record (lane p l) { instructions = slice_set zs pin.place x }

  lane_next : lane next l ≡ with_x
  unfolding pinned
  lane_next = get_or-set_same p l with_x no_lane stood.lane

  -- what holds of the other unpack holds of each instruction, where it does of the others
  pub each : (P : ℕ → Option Instruction → Type 0) → P pin.place (Some x)
      → ((i : ℕ) → i ≢ pin.place → P i (instruction_at p l i)) → (i : ℕ)
      → P i (instruction_at next l i)
  each P here other i =
      subst (λ (of : Lane). P i (slice_get of.instructions i)) (sym lane_next)
      (swapped zs pin.place x stood.unpacks P here other i)

  pub known-next : IsPlan u p → (i : ℕ) (y : Instruction)
      → instruction_at next l i ≡ Some y → IsInstruction u y
  known-next plan =
      each (λ i o. (y : Instruction) → o ≡ Some y → IsInstruction u y)
      (λ y is. subst (IsInstruction u) (same_Some x y is) stood.named)
      (λ i other y. plan.instructions l i y stood.lane)

  -- ---- its branches

  side-same : (i : ℕ) → side_at (lane next l).instructions i ≡ side_at zs i
  side-same zero = refl
  side-same (suc i) =
      ap (λ s. side_behind_some i s (instruction_at next l i)) (side-same i)
      ∙ each (λ j o. side_behind_some j (side_at zs j) o ≡ side_at zs (suc j))
      (sym (plain pin.place _ (instruction_at p l pin.place) stood.unpacks)) (λ j other. refl) i

  branched-next : IsPlan u p → IsBranched (lane next l).instructions
  branched-next plan = record {
    stands =
        each (λ i o. (y : Instruction) → o ≡ Some y
        → may_stand (side_at (lane next l).instructions i) y ≡ true)
        (λ y is. subst (λ k. may_stand (side_at (lane next l).instructions pin.place) k ≡ true)
        (same_Some x y is) (stands u pin.variant _))
        (λ i other y is. ap (λ s. may_stand s y) (side-same i)
        ∙ (plan.branched l stood.lane).stands i y is);
    closed =
        side-same (length (lane next l).instructions)
        ∙ ap (side_at zs) (ap (λ (of : Lane). length of.instructions) lane_next
        ∙ length-set zs pin.place x) ∙ (plan.branched l stood.lane).closed;
  }

  -- ---- what may be in the archive, and be met

  reach-same : (i j : ℕ) (v : Variant) → list_any (gives u v) (within_reach next l i j)
      ≡ list_any (gives u v) (within_reach p l i j)
  unfolding pinned
  reach-same i j v = elim (cases_eq j l) [
    | inl same ↦
        rw (same, eq-eqb l l refl, get_or-set_same p l with_x no_lane stood.lane)
        (any-set u v pin.variant zs pin.place stood.unpacks i)
    | inr other ↦ rw (ne_eqb j l other, get_or-set_other p l j with_x no_lane other)
  ]

  possible-same : (i : ℕ) → possible u next l i ≡ possible u p l i
  unfolding possible pinned
  possible-same i = λ e v. each v e
    where
      each : (v : Variant) → possible u next l i v ≡ possible u p l i v
      each v =
          rw (length-set p l with_x)
          (ap (λ t. initial u v || t) (some_below-same (length p) _ _ (λ j below. reach-same i j v)))

  -- a risk is told by the lane's base and budget
  risk-same : (of : Lane) → of ≡ lane p l → (known : Variant → Bool) (i : ℕ) (m : May)
      (y : Instruction) → risk u (lane next l) known (possible u next l i) m y
      ≡ risk u of known (possible u p l i) m y
  unfolding capacity
  risk-same of is known i m y = rw (lane_next, possible-same i, is) (same y)
    where
      picked : (there : Variant → Bool) (name : ℕ) (wanted : _) (o : Option ℕ)
          → risks.unpack_risk u there with_x m name wanted o
          ≡ risks.unpack_risk u there (lane p l) m name wanted o
      picked there name wanted None = refl
      picked there name wanted (Some highest) = refl

      same : (y : Instruction) → risk u with_x known (possible u p l i) m y
          ≡ risk u (lane p l) known (possible u p l i) m y
      same (Unpack name wanted) = picked (possible u p l i) name wanted (newest u known name wanted)
      same _ = refl

  -- ---- what may be held

  of_next : (of : Lane) → of ≡ lane p l → (w : Words) → IsOfLane u of w
      → IsOfLane u (lane next l) w
  of_next of same w at = let is = subst (λ o. IsOfLane u o w) same at in
      subst (λ o. IsOfLane u o w) (sym lane_next)
      (record { based = is.based; small = is.small; words = is.words; within = is.within })

  pub of_this : (of : Lane) → of ≡ lane p l → (w : Words) → IsOfLane u (lane next l) w
      → IsOfLane u of w
  of_this of same w at = let is = subst (λ o. IsOfLane u o w) lane_next at in
      subst (λ o. IsOfLane u o w) (sym same)
      (record { based = is.based; small = is.small; words = is.words; within = is.within })

  pub start-next : {rows : Rows} {w : LaneMay} → IsAt u p rows l 0 w → IsAt u next rows l 0 w
  start-next {rows} {w} at = record {
    here = ap (λ of. (start_maps u of).here) lane_next ∙ at.here;
    of_lane = of_next (lane p l) refl w.here at.of_lane;
    doubts = at.doubts;
    branch = outside w.branch at.branch;
  }
    where
      outside : (b : Branch) → IsBranch u (lane p l) Outside (maps_at u p rows l 0) b
          → IsBranch u (lane next l) Outside (maps_at u next rows l 0) b
      outside Branch.Outside e = e
      outside (Branch.First at ahead) e = let differ = e.0 in cc
      outside (Branch.Second at first) e = let differ = e.0 in cc

  -- ---- one instruction of the plan

  module _ (plan : IsPlan u p) {rows : Rows} {i : ℕ} {w : LaneMay} (at : IsAt u next rows l i w) where
    pub tried-when : (name : ℕ) (wanted : Option (Op × List ℕ))
        → instruction_at next l i ≡ Some (When name wanted) → IsTried u next rows l i
        (record { here = w.here; doubts = w.doubts; branch = Branch.First i w.here }) true
    tried-when name wanted is = (
      when-safe u next rows l i (branched-next plan) name wanted is,
      begin-at u next rows l i (branched-next plan) name wanted is w at,
    )

    pub tried-else : instruction_at next l i ≡ Some Otherwise
        → IsTried u next rows l i (turned w w.branch) true
    tried-else is = (
      else-safe u next rows l i (branched-next plan) is,
      turn-at u next rows l i (branched-next plan) is w at,
    )

    pub tried-end : instruction_at next l i ≡ Some EndWhen → (after : LaneMay) (told : Option ℕ)
        → ((of : Lane) → IsBranchEnd u of w → IsBehindEnd u of w after told)
        → (safe : Bool) → is_some told ≡ not safe → IsTried u next rows l i after safe
    tried-end is after told done = by told
        (done (lane next l) (held-at u next rows l i (branched-next plan) w at))
      where
        by : (told : Option ℕ) → IsBehindEnd u (lane next l) w after told
            → (safe : Bool) → is_some told ≡ not safe → IsTried u next rows l i after safe
        by None end true e = end-at u next rows l i (branched-next plan) is w after at end
        by None end false e = absurd (false≢true e)
        by (Some k) end true e = absurd (false≢true (sym e))
        by (Some k) end false e = λ safe. none-some Parts (sym safe
            ∙ (parts-at u next rows l i (branched-next plan) is w after at k end).0)

    pub tried-step : (y : Instruction) → is_plain y ≡ true → instruction_at next l i ≡ Some y
        → (of : Lane) → of ≡ lane p l → (here : Words) (doubts : Doubt)
        → (answer : Result (Unit {0}) Trap)
        → Answers u of (rows l i) (possible u p l i) (may_of w.here) y (may_of here) answer
        → OnOk answer (IsOfLane u of here) → OnOk answer (AreDoubts u (may_of here) doubts)
        → IsTried u next rows l i
        (record { here = here; doubts = doubts; branch = w.branch }) (is_ok answer)
    tried-step y plain is of same here doubts (Ok done) told of_lane known =
        step-at u next rows l i (branched-next plan) y plain is w at here doubts
        (risk-same of same (rows l i) i (may_of w.here) y ∙ told.0)
        (ap (λ there. may_after u (rows l i) there (may_of w.here) y) (possible-same i) ∙ told.1)
        (of_next of same here of_lane) known
    tried-step y plain is of same here doubts (Err trap) told of_lane known =
        λ safe. none-some (Meets trap) (sym safe ∙ risk-at u next rows l i (branched-next plan) y is
        w at trap (risk-same of same (rows l i) i (may_of w.here) y ∙ told))
