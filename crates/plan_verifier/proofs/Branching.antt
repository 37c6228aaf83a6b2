-- What may be held behind a `when`, an `else` and an `end`.
use Rattle.std.proofs.Common.{◌≡◌, ℕ, suc, ◌≤◌, true, false, List, Option, Some, None, refl, sym, ap, ◌∙◌, subst}
use Rattle.std.proofs.lemmas.Bool.{false≢true, both_ways}
use Rattle.deb_relation.specs.declared.operator.Op.{Op}
use Rattle.farm_model.specs.Universe.{Universe}
use Rattle.farm_model.specs.declared.types.Trap.{Trap}
use Rattle.may_rows.specs.Met.{Doubt, AreDoubts}
use Rattle.may_rows.specs.Walk.{IsOfLane}
use Rattle.may_rows.specs.Words.{Words, may_of}
use Rattle.plan_model.specs.Common.{Side, Outside, InFirst, InSecond, side_behind_some, side_at, home, may_stand, IsBranched, phases_differ, joined_may, Rows, possible, May, may_after, Maps, maps_behind, maps_at, Plan, lane, instruction_at, risk, Meets, Parts, parts_of, hazard_of, hazard_at}
use Rattle.plan_model.specs.declared.instructions.Instruction.{Instruction}
use Rattle.plan_model.specs.declared.instructions.Instruction.TheVariants.{When, Otherwise, EndWhen}
use Rattle.plan_verifier.specs.declared.branch.Branch.{Branch}
use Rattle.plan_verifier.specs.declared.branch.LaneMay.{LaneMay}
use Rattle.plan_verifier.specs.Branch.{forgotten, turned, JoinedBy, IsBranchEnd, IsBehindEnd, IsBranch, IsAt}
use Rattle.plan_verifier.specs.Walk.{place_told, is_plain}
use Rattle.verdict_laws.proofs.RowBefore.{home-before}
use Rattle.plan_verifier.proofs.Steps.{maps-next, hazard-is}

-- nothing is known
pub nothing_known : (u : Universe) (m : May) → AreDoubts u m forgotten
nothing_known u m = record {
  among = λ known. absurd (false≢true known);
  loose = λ known. absurd (false≢true known);
}

module _ (u : Universe) (p : Plan) (rows : Rows) (l i : ℕ)
    (branched : IsBranched (lane p l).instructions) where
  abbrev maps : Maps
  maps = maps_at u p rows l i

  abbrev side : Side
  side = side_at (lane p l).instructions i

  side-next : (x : Instruction) → instruction_at p l i ≡ Some x
      → side_at (lane p l).instructions (suc i) ≡ side_behind_some i side (Some x)
  side-next x is = ap (side_behind_some i side) is

  abbrev behind : Instruction → Maps
  behind x = maps_behind u (rows l i) (possible u p l i) maps x

  stands : (x : Instruction) (s : Side) → instruction_at p l i ≡ Some x → side ≡ s
      → may_stand s x ≡ true
  stands x s is e = ap (λ t. may_stand t x) (sym e) ∙ branched.stands i x is

  -- behind a `when`
  pub begin-at : (name : ℕ) (wanted : Option (Op × List ℕ))
      → instruction_at p l i ≡ Some (When name wanted) → (w : LaneMay) → IsAt u p rows l i w
      → IsAt u p rows l (suc i)
      (record { here = w.here; doubts = w.doubts; branch = Branch.First i w.here })
  begin-at name wanted is w at =
      let next = maps-next u p rows l i (When name wanted) is in
      record {
        here = ap (λ (m : Maps). m.here) next ∙ at.here;
        of_lane = at.of_lane;
        doubts = at.doubts;
        branch = (
          side-next (When name wanted) is,
          ap (λ (m : Maps). m.ahead) next ∙ at.here,
          at.of_lane,
        );
      }

  -- behind an `else`
  pub turn-at : instruction_at p l i ≡ Some Otherwise → (w : LaneMay) → IsAt u p rows l i w
      → IsAt u p rows l (suc i) (turned w w.branch)
  turn-at is w at = by w.branch at.branch
    where
      by : (b : Branch) → IsBranch u (lane p l) side maps b → IsAt u p rows l (suc i) (turned w b)
      by Branch.Outside e =
          absurd (both_ways _ refl (stands Otherwise Outside is e))
      by (Branch.Second k first) e =
          absurd (both_ways _ refl (stands Otherwise (InSecond k) is e.0))
      by (Branch.First k ahead) e =
          let next = maps-next u p rows l i Otherwise is in
          record {
            here = ap (λ (m : Maps). m.here) next ∙ e.1;
            of_lane = e.2;
            doubts = nothing_known u (may_of ahead);
            branch = (
              side-next Otherwise is
                  ∙ ap (λ t. side_behind_some i t (Some Otherwise)) e.0,
              ap (λ (m : Maps). m.first) next ∙ at.here,
              at.of_lane,
            );
          }

  -- behind an `end` whose branches agree
  -- what is kept of the open branch is of the lane
  pub held-at : (w : LaneMay) → IsAt u p rows l i w → IsBranchEnd u (lane p l) w
  held-at w at = record {
    here = at.of_lane;
    first = λ k first is. (subst (λ b. IsBranch u (lane p l) side maps b) is at.branch).2;
  }

  pub end-at : instruction_at p l i ≡ Some EndWhen → (w next : LaneMay) → IsAt u p rows l i w
      → IsBehindEnd u (lane p l) w next None
      → (hazard_at u p rows l i ≡ None) × IsAt u p rows l (suc i) next
  end-at is w next at done = by w.branch at.branch done
    where
      by : (b : Branch) → IsBranch u (lane p l) side maps b → JoinedBy u (lane p l) w next b None
          → (hazard_at u p rows l i ≡ None) × IsAt u p rows l (suc i) next
      by Branch.Outside e j = absurd (both_ways _ refl (stands EndWhen Outside is e))
      by (Branch.First k ahead) e j =
          absurd (both_ways _ refl (stands EndWhen (InFirst k) is e.0))
      by (Branch.Second k first) e j =
          let after = maps-next u p rows l i EndWhen is in (
            hazard-is u p rows l i EndWhen is
                ∙ ap (hazard_of None) (ap (phases_differ u maps.first) at.here
                ∙ ap (λ m. phases_differ u m (may_of w.here)) e.1 ∙ j.0),
            record {
              here = ap (λ (m : Maps). m.here) after ∙ ap (joined_may u maps.first) at.here
                  ∙ ap (λ m. joined_may u m (may_of w.here)) e.1 ∙ sym j.1;
              of_lane = j.2;
              doubts = subst (AreDoubts u (may_of next.here)) (sym j.3)
                  (nothing_known u (may_of next.here));
              branch = subst (IsBranch u (lane p l) (side_at (lane p l).instructions (suc i))
                  (maps_at u p rows l (suc i))) (sym j.4) (side-next EndWhen is);
            },
          )

  -- an `end` whose branches part
  pub parts-at : instruction_at p l i ≡ Some EndWhen → (w next : LaneMay) → IsAt u p rows l i w
      → (told : ℕ) → IsBehindEnd u (lane p l) w next (Some told)
      → (hazard_at u p rows l i ≡ Some Parts) × (told ≡ place_told p l i Parts)
  parts-at is w next at told done = by w.branch at.branch done
    where
      by : (b : Branch) → IsBranch u (lane p l) side maps b
          → JoinedBy u (lane p l) w next b (Some told)
          → (hazard_at u p rows l i ≡ Some Parts) × (told ≡ place_told p l i Parts)
      by Branch.Outside e j = absurd (both_ways _ refl (stands EndWhen Outside is e))
      by (Branch.First k ahead) e j =
          absurd (both_ways _ refl (stands EndWhen (InFirst k) is e.0))
      by (Branch.Second k first) e j = (
        hazard-is u p rows l i EndWhen is
            ∙ ap (hazard_of None) (ap (phases_differ u maps.first) at.here
            ∙ ap (λ m. phases_differ u m (may_of w.here)) e.1 ∙ j.1),
        j.0 ∙ sym (ap (λ t. home t i) e.0),
      )

  -- neither a `when` nor an `else` is unsafe
  pub when-safe : (name : ℕ) (wanted : Option (Op × List ℕ))
      → instruction_at p l i ≡ Some (When name wanted) → hazard_at u p rows l i ≡ None
  when-safe name wanted is = hazard-is u p rows l i (When name wanted) is

  pub else-safe : instruction_at p l i ≡ Some Otherwise → hazard_at u p rows l i ≡ None
  else-safe is = hazard-is u p rows l i Otherwise is

  plain-side : (x : Instruction) (s : Side) → is_plain x ≡ true
      → side_behind_some i s (Some x) ≡ s
  plain-side (When name wanted) s e = absurd (false≢true e)
  plain-side Otherwise s e = absurd (false≢true e)
  plain-side EndWhen s e = absurd (false≢true e)
  plain-side _ s e = refl

  plain-behind : (x : Instruction) → is_plain x ≡ true → behind x ≡ record {
    here = may_after u (rows l i) (possible u p l i) maps.here x;
    ahead = maps.ahead;
    first = maps.first;
  }
  plain-behind (When name wanted) e = absurd (false≢true e)
  plain-behind Otherwise e = absurd (false≢true e)
  plain-behind EndWhen e = absurd (false≢true e)
  plain-behind _ e = refl

  plain-parts : (x : Instruction) → is_plain x ≡ true → parts_of u maps (Some x) ≡ false
  plain-parts (When name wanted) e = absurd (false≢true e)
  plain-parts Otherwise e = absurd (false≢true e)
  plain-parts EndWhen e = absurd (false≢true e)
  plain-parts _ e = refl

  -- behind any other instruction
  pub past-at : (x : Instruction) → is_plain x ≡ true → instruction_at p l i ≡ Some x
      → (w : LaneMay) → IsAt u p rows l i w → (here : Words) (doubts : Doubt)
      → may_after u (rows l i) (possible u p l i) (may_of w.here) x ≡ may_of here
      → IsOfLane u (lane p l) here → AreDoubts u (may_of here) doubts
      → IsAt u p rows l (suc i) (record { here = here; doubts = doubts; branch = w.branch })
  past-at x plain is w at here doubts after of_lane known =
      let next = maps-next u p rows l i x is ∙ plain-behind x plain in
      record {
        here = ap (λ (m : Maps). m.here) next
            ∙ ap (λ m. may_after u (rows l i) (possible u p l i) m x) at.here ∙ after;
        of_lane = of_lane;
        doubts = known;
        branch = kept w.branch at.branch (maps_at u p rows l (suc i))
            (side-next x is ∙ plain-side x side plain)
            (ap (λ (m : Maps). m.ahead) next) (ap (λ (m : Maps). m.first) next);
      }
    where
      kept : (b : Branch) → IsBranch u (lane p l) side maps b → (m : Maps) → {s : Side} → s ≡ side
          → m.ahead ≡ maps.ahead → m.first ≡ maps.first → IsBranch u (lane p l) s m b
      kept Branch.Outside e m s a f = s ∙ e
      kept (Branch.First k ahead) e m s a f = (s ∙ e.0, a ∙ e.1, e.2)
      kept (Branch.Second k first) e m s a f = (s ∙ e.0, f ∙ e.1, e.2)

  -- behind one that is safe
  pub step-at : (x : Instruction) → is_plain x ≡ true → instruction_at p l i ≡ Some x
      → (w : LaneMay) → IsAt u p rows l i w → (here : Words) (doubts : Doubt)
      → risk u (lane p l) (rows l i) (possible u p l i) (may_of w.here) x ≡ None
      → may_after u (rows l i) (possible u p l i) (may_of w.here) x ≡ may_of here
      → IsOfLane u (lane p l) here → AreDoubts u (may_of here) doubts
      → (hazard_at u p rows l i ≡ None) × IsAt u p rows l (suc i)
      (record { here = here; doubts = doubts; branch = w.branch })
  step-at x plain is w at here doubts safe after of_lane known = (
    hazard-is u p rows l i x is
        ∙ ap (λ m. hazard_of (risk u (lane p l) (rows l i) (possible u p l i) m x)
        (parts_of u maps (Some x))) at.here
        ∙ ap (λ r. hazard_of r (parts_of u maps (Some x))) safe
        ∙ ap (hazard_of None) (plain-parts x plain),
    past-at x plain is w at here doubts after of_lane known,
  )

  -- the trap that another instruction may meet
  pub risk-at : (x : Instruction) → instruction_at p l i ≡ Some x → (w : LaneMay)
      → IsAt u p rows l i w → (trap : Trap)
      → risk u (lane p l) (rows l i) (possible u p l i) (may_of w.here) x ≡ Some trap
      → hazard_at u p rows l i ≡ Some (Meets trap)
  risk-at x is w at trap risky =
      hazard-is u p rows l i x is
      ∙ ap (λ m. hazard_of (risk u (lane p l) (rows l i) (possible u p l i) m x)
      (parts_of u maps (Some x))) at.here
      ∙ ap (λ r. hazard_of r (parts_of u maps (Some x))) risky

  -- where branches part is told ahead of the place
  pub told-before : place_told p l i Parts ≤ i
  told-before = home-before (lane p l).instructions i
