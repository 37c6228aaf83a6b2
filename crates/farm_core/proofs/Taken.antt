-- Turns that an instruction on the chroot makes of a lane.
use Rattle.std.proofs.Common.{◌≡◌, ℕ, Bool, true, false, List, Option, Some, None, refl, sym, ap, ◌∙◌, subst, length-set}
use Rattle.std.specs.Prelude.{◌≢◌}
use Rattle.std.specs.Vec.{with_item}
use Rattle.farm_model.specs.Common.{Universe, base, Chroot, first_trap}
use Rattle.farm_model.specs.declared.types.Trap.{Trap}
use Rattle.farm_model.specs.declared.types.Trap.TheVariants.{OverBudget}
use Rattle.plan_model.specs.Common.{Lane, capacity, LaneState, past, past_build, unless, over_budget, unless_trapped}
use Rattle.plan_model.specs.Turn as turn
use Rattle.chroot_state.specs.Held.{Held, IsHeld, room, with_slots}
use Rattle.farm_core.specs.Lanes.{shown, passed, IsRun}
use Rattle.farm_core.specs.Turns.{IsTurn, MeetsNone}
use Rattle.farm_core.specs.declared.lane.LaneRun.{LaneRun}
use Rattle.farm_core.specs.declared.traps.Traps.{Traps}
use Rattle.farm_core.specs.declared.traps.Traps.TheVariants.{Unmet}
use Rattle.farm_core.specs.declared.turn.Turn.TheVariants.{Goes, Fails}

module _ (of : Lane) (st : LaneState) (cost : ℕ) (traps : List (Bool × Trap)) (next : turn.Turn)
  where
    over_first : over_budget of st cost ≡ true
        → unless_trapped of st cost traps next ≡ turn.Fails OverBudget
    unfolding first_trap
    over_first over = rw over refl

    then_first : over_budget of st cost ≡ false
        → unless_trapped of st cost traps next ≡ unless (first_trap traps) next
    unfolding first_trap
    then_first within = rw within refl

    unless_none : (o : Option Trap) → ((trap : Trap) → unless o next ≢ turn.Fails trap)
        → o ≡ None
    unless_none None free = refl
    unless_none (Some trap) free = absurd (free trap refl)

    untrapped : over_budget of st cost ≡ false
        → ((trap : Trap) → unless_trapped of st cost traps next ≢ turn.Fails trap)
        → first_trap traps ≡ None
    untrapped within free = unless_none (first_trap traps)
        (λ trap is. free trap (then_first within ∙ is))

module _ (u : Universe) (of : Lane) (r : LaneRun) (run : IsRun u of r) (cost : ℕ)
    (traps : List (Bool × Trap)) (paid : ℕ) (is_cost : paid ≡ cost) where
  paid_test : (b : Bool) → b ≡ over_budget of (shown r) paid → {t : Bool} → b ≡ t
      → over_budget of (shown r) cost ≡ t
  paid_test b test is = sym (ap (over_budget of (shown r)) is_cost) ∙ (sym test ∙ is)

  -- a lane whose cost is over the budget
  pub over : (next : turn.Turn) (b : Bool) → b ≡ over_budget of (shown r) paid → b ≡ true
      → IsTurn u of r r (Fails OverBudget) (unless_trapped of (shown r) cost traps next)
  over next b test is = record {
    told = over_first of (shown r) cost traps next (paid_test b test is);
    run = run;
    kept = refl;
    waited = refl;
  }

  -- a lane whose turn meets no trap
  pub free : (next : turn.Turn) (b : Bool) → b ≡ over_budget of (shown r) paid → b ≡ false
      → (tests : Traps) → MeetsNone tests (unless_trapped of (shown r) cost traps next)
      → tests ≡ Unmet → first_trap traps ≡ None
  free next b test within tests none is =
      untrapped of (shown r) cost traps next (paid_test b test within) (none is)

  -- a lane whose chroot answers a trap, and stays
  pub trapped : (next : turn.Turn) (b : Bool) → b ≡ over_budget of (shown r) paid → b ≡ false
      → (c : Held) (trap : Trap) → Some trap ≡ first_trap traps → c ≡ r.chroot
      → IsTurn u of r (record r { chroot = c }) (Fails trap)
      (unless_trapped of (shown r) cost traps next)
  trapped next b test within c trap is same = record {
    told = then_first of (shown r) cost traps next (paid_test b test within)
        ∙ ap (λ o. unless o next) (sym is);
    run = record {
      chroot = subst (IsHeld u) (sym same) run.chroot;
      base = ap (λ (h : Held). h.base) same ∙ run.base;
      built = run.built;
    };
    kept = ap (λ (h : Held). shown (record r { chroot = h })) same;
    waited = refl;
  }

  -- a lane whose chroot changes so
  pub gone : (slots : Chroot) (b : Bool) → b ≡ over_budget of (shown r) paid → b ≡ false
      → (c : Held) → None ≡ first_trap traps → c ≡ with_slots u r.chroot slots → IsHeld u c
      → (new : LaneRun) → new ≡ passed of (record r { chroot = c }) paid
      → IsTurn u of r new Goes
      (unless_trapped of (shown r) cost traps (turn.Goes (past of (shown r) cost slots)))
  gone slots b test within c none is held new passes =
      let goes : turn.Turn = turn.Goes (past of (shown r) cost slots) in
      let turned : IsTurn u of r (passed of (record r { chroot = c }) paid) Goes
      (unless_trapped of (shown r) cost traps goes) = record {
        told =
            then_first of (shown r) cost traps goes (paid_test b test within)
            ∙ (ap (λ o. unless o goes) (sym none)
            ∙ (ap (λ xs. turn.Goes (past of (shown r) cost xs))
            (sym (ap (λ (h : Held). h.slots) is))
            ∙ ap (λ n. turn.Goes (past of (shown r) n c.slots)) (sym is_cost)));
        run = record {
          chroot = held;
          base = ap (λ (h : Held). h.base) is ∙ run.base;
          built = run.built;
        };
        kept = tt;
        waited = refl;
      } in
      subst (λ n. IsTurn u of r n Goes (unless_trapped of (shown r) cost traps goes))
      (sym passes) turned

-- a lane that has built a recipe
pub built_on : (u : Universe) (of : Lane) (r : LaneRun) (run : IsRun u of r) (cost : ℕ)
    (traps : List (Bool × Trap)) (paid : ℕ) → paid ≡ cost → (recipe : ℕ) (b : Bool)
    → b ≡ over_budget of (shown r) paid → b ≡ false → None ≡ first_trap traps → (new : LaneRun)
    → new ≡ passed of r paid
    → IsTurn u of r (record new { built = with_item new.built recipe true }) Goes
    (unless_trapped of (shown r) cost traps (turn.Goes (past_build of (shown r) cost recipe)))
built_on u of r run cost traps paid is_cost recipe b test within none new passes =
    let goes : turn.Turn = turn.Goes (past_build of (shown r) cost recipe) in
    let turned : IsTurn u of r
    (record (passed of r paid) { built = with_item r.built recipe true }) Goes
    (unless_trapped of (shown r) cost traps goes) = record {
      told =
          then_first of (shown r) cost traps goes
          (paid_test u of r run cost traps paid is_cost b test within)
          ∙ (ap (λ o. unless o goes) (sym none)
          ∙ ap (λ n. turn.Goes (past_build of (shown r) n recipe)) (sym is_cost));
      run = record {
        chroot = run.chroot;
        base = run.base;
        built = length-set r.built.items recipe true ∙ run.built;
      };
      kept = tt;
      waited = refl;
    } in
    subst (λ (n : LaneRun). IsTurn u of r (record n { built = with_item n.built recipe true }) Goes
    (unless_trapped of (shown r) cost traps goes)) (sym passes) turned

-- the room of a lane's chroot is that of its base chroot
pub room_is : (u : Universe) (of : Lane) (r : LaneRun) → IsRun u of r
    → room u r.chroot ≡ capacity u of
unfolding capacity
room_is u of r run = ap (λ b. (base u b).capacity) run.base
