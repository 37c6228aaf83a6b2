-- What a lane's first hazard says: of a trap that its instruction may meet it, of branches that part
-- that they do; and that something is told of either.
use Rattle.std.proofs.Common.{◌≡◌, get_or, ℕ, ◌-◌, ◌<◌, Bool, true, false, length, Option, Some, None, option_map, is_some, refl, sym, ap, subst, ◌∙◌, arith, IfSome, not, if◌then◌else◌}
use Rattle.std.specs.List.{range_with_len}
use Rattle.std.proofs.lemmas.Bool.{false≢true}
use Rattle.std.proofs.lemmas.List.Folds.{list_any_at}
use Rattle.std.proofs.lemmas.List.FromFn.{get_or-range_with_len, length-range_with_len}
use Rattle.std.proofs.lemmas.Option.{none-some}
use Rattle.farm_model.specs.Common.{names, Universe}
use Rattle.farm_model.specs.declared.types.Trap.{Trap}
use Rattle.plan_model.specs.Common.{Side, Outside, InFirst, side_at, may_stand, IsBranched, is_same_phase, phases_differ, Rows, May, MaySlot, MayAbsent, MayUnpacked, MayConfigured, is_surely_configured, is_surely_present, is_surely_unpacked, Maps, maps_at, Plan, lane, instruction_at, Meets, Parts, hazard_at, hazard_of, parts_of, risk_at}
use Rattle.plan_model.specs.declared.instructions.Instruction.{Instruction}
use Rattle.plan_model.specs.declared.instructions.Instruction.TheVariants.{EndWhen}
use Rattle.farm_model.proofs.BelowLaws.{some_below-found}
use Rattle.may_rows.specs.Words.{Words, may_of}
use Rattle.plan_verifier.specs.Branch.{IsAt, IsBranch}
use Rattle.plan_verifier.specs.declared.branch.Branch.{Branch}
use Rattle.plan_verifier.specs.declared.branch.LaneMay.{LaneMay}
use Rattle.plan_verifier.specs.Stage.{IsStage}
use Rattle.verdict_laws.proofs.RowBefore.{home-before}
use Rattle.known_rows.specs.KnownRows.{Knowledge}
use Rattle.known_rows.specs.Outputs.{PlanOutputs}
use Rattle.explain_reasons.proofs.HasReason.{has-reason-at}
use Rattle.explain_reasons.proofs.FirstLaws.{within}
use Rattle.explain_reasons.specs.Reasons.{reason_at}
use Rattle.explain_reasons.specs.Removals.{lane_hazard, place_hazard, told}
use Rattle.explain_reasons.specs.declared.along.LaneHazard.{LaneHazard}
use Rattle.explain_lanes.proofs.Below.{none_found, of_first}
use Rattle.explain_lanes.specs.LaneNotes.{differs, hazard_told, parting_name}
use Rattle.explain_lanes.specs.declared.note.Told.{Told}

-- ---- branches that part

-- whether a name is in one phase
pub phase_is : (s t : MaySlot) → is_same_phase s t
    ≡ (if is_surely_unpacked s then is_surely_unpacked t else
    (if is_surely_configured s then is_surely_configured t else not (is_surely_present t)))
phase_is MayAbsent MayAbsent = refl
phase_is MayAbsent (MayUnpacked other before) = refl
phase_is MayAbsent (MayConfigured other) = refl
phase_is (MayUnpacked current last) MayAbsent = refl
phase_is (MayUnpacked current last) (MayUnpacked other before) = refl
phase_is (MayUnpacked current last) (MayConfigured other) = refl
phase_is (MayConfigured current) MayAbsent = refl
phase_is (MayConfigured current) (MayUnpacked other before) = refl
phase_is (MayConfigured current) (MayConfigured other) = refl

abbrev parts_at : Universe → Plan → Rows → (l i : ℕ) → Bool
parts_at u p rows l i = parts_of u (maps_at u p rows l i) (instruction_at p l i)

-- they end there, and leave some name in different phases
ends : (u : Universe) (m : Maps) (x : Option Instruction) → parts_of u m x ≡ true
    → (x ≡ Some EndWhen) × (phases_differ u m.first m.here ≡ true)
ends u m None is = absurd (false≢true is)
ends u m (Some EndWhen) is = (refl, is)
ends u m (Some _) is = absurd (false≢true is)

-- so the lane is in the second one, and both are known there
pub is_second : {u : Universe} {p : Plan} {rows : Rows} {l i : ℕ} {w : LaneMay}
    → IsAt u p rows l i w → parts_at u p rows l i ≡ true → IsBranched (lane p l).instructions
    → (k : ℕ) × (first : Words) × (w.branch ≡ Branch.Second k first)
    × (phases_differ u (may_of first) (may_of w.here) ≡ true)
is_second {u} {p} {rows} {l} {i} {w} at parts branched = by w.branch refl at.branch
  where
    end : (instruction_at p l i ≡ Some EndWhen)
        × (phases_differ u (maps_at u p rows l i).first (maps_at u p rows l i).here ≡ true)
    end = ends u (maps_at u p rows l i) (instruction_at p l i) parts

    stands : (s : Side) → side_at (lane p l).instructions i ≡ s → may_stand s EndWhen ≡ true
    stands s is = ap (λ t. may_stand t EndWhen) (sym is) ∙ branched.stands i EndWhen end.0

    by : (b : Branch) → w.branch ≡ b
        → IsBranch u (lane p l) (side_at (lane p l).instructions i) (maps_at u p rows l i) b
        → (k : ℕ) × (first : Words) × (w.branch ≡ Branch.Second k first)
        × (phases_differ u (may_of first) (may_of w.here) ≡ true)
    by Branch.Outside is side = absurd (false≢true (stands Outside side))
    by (Branch.First k ahead) is side = absurd (false≢true (stands (InFirst k) side.0))
    by (Branch.Second k first) is side = (
      k,
      first,
      is,
      ap (λ m. phases_differ u m (may_of w.here)) (sym side.1)
          ∙ ap (phases_differ u (maps_at u p rows l i).first) (sym at.here) ∙ end.1,
    )

-- a name that is in two phases is told
pub some_parts : (u : Universe) (m n : May) → phases_differ u m n ≡ true → parting_name u m n ≡ None
    → ⊥
unfolding phases_differ
some_parts u m n differ none =
    let k = some_below-found (names u) (differs m n) differ in
    let here : get_or (range_with_len 0 (names u)) k.0 0 ≡ k.0 =
    omega (arith, get_or-range_with_len 0 (names u) k.0 0 k.1) in
    false≢true (sym (none_found (differs m n) (range_with_len 0 (names u)) none)
    ∙ list_any_at (differs m n) (range_with_len 0 (names u)) k.0 0
    (omega (arith, k.1, length-range_with_len 0 (names u)))
    (ap (differs m n) here ∙ k.2))

-- ---- a lane's first hazard

told_of : {A : Type 0} (f : A → Told) (x : Option A) → (x ≡ None → ⊥)
    → (t : Told) × (option_map f x ≡ Some t)
told_of f None some = absurd (some refl)
told_of f (Some x) some = (f x, refl)

module _ (u : Universe) (p : Plan) (rows : Rows) (l : ℕ) where
  pub record IsFirst (it : LaneHazard) : Type 0 where
    pub within : it.place < length (lane p l).instructions
    pub told_within : it.instruction - 1 < length (lane p l).instructions
    pub risk : it.trap ≡ risk_at u p rows l it.place
    pub parts : it.trap ≡ None → parts_at u p rows l it.place ≡ true
    pub tells : (t : Told) × (hazard_told u p rows l it.place it.trap ≡ Some t)

  at_place : (i : ℕ) → IfSome (place_hazard u p rows l i) IsFirst
  unfolding hazard_at
  at_place i = by (risk_at u p rows l i) (parts_at u p rows l i) refl refl
    where
      by : (risk : Option Trap) (part : Bool) → risk ≡ risk_at u p rows l i
          → parts_at u p rows l i ≡ part
          → IfSome (option_map (told p l i) (hazard_of risk part)) IsFirst
      by (Some trap) part risk parts =
          let lt = within u p rows l i (Meets trap)
          (ap (λ r. hazard_of r (parts_at u p rows l i)) (sym risk)) in
          record {
            within = lt;
            told_within = omega (arith, lt);
            risk = risk;
            parts = λ none. absurd (none-some trap (sym none));
            tells = told_of Told.Trap (reason_at u p rows l i trap)
                (λ none. false≢true (sym (ap is_some none)
                ∙ has-reason-at u p rows l i trap (sym risk)));
          }
      by None true risk parts =
          let lt = within u p rows l i Parts
          (ap (λ r. hazard_of r (parts_at u p rows l i)) (sym risk) ∙ ap (hazard_of None) parts) in
          record {
            within = lt;
            told_within = omega (arith, lt, home-before (lane p l).instructions i);
            risk = risk;
            parts = λ none. parts;
            tells = told_of Told.Uneven _
                (some_parts u (maps_at u p rows l i).first (maps_at u p rows l i).here
                (ends u (maps_at u p rows l i) (instruction_at p l i) parts).1);
          }
      by None false risk parts = tt

  pub is_first : (it : LaneHazard) → Some it ≡ lane_hazard u p rows l → IsFirst it
  is_first it is =
      subst (λ found. IfSome found IsFirst) (sym is)
      (of_first IsFirst (length (lane p l).instructions) (place_hazard u p rows l)
      (λ i lt. at_place i))

  pub within_lane : (it : LaneHazard) → Some it ≡ lane_hazard u p rows l
      → it.place < length (lane p l).instructions
  within_lane it is = (is_first it is).within

  pub told_in_lane : (it : LaneHazard) → Some it ≡ lane_hazard u p rows l
      → it.instruction - 1 < length (lane p l).instructions
  told_in_lane it is = (is_first it is).told_within

-- the same of a stage
pub first_of : {u : Universe} {p : Plan} {tables : Universe} {outputs : PlanOutputs}
    {known : Knowledge} → IsStage u p tables outputs known → (l : ℕ) (it : LaneHazard)
    → Some it ≡ lane_hazard u p known.rows l → IsFirst u p known.rows l it
first_of {u} {p} {tables} {outputs} {known} stage = is_first u p known.rows
