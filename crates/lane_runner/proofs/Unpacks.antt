-- An unpack of a runner over one word: it takes a variant, meets no trap, and leaves the runner on
-- its way.
use Rattle.std.proofs.Common.{◌≡◌, ℕ, Bool, ◌&&◌, List, Option, Some, None, refl, sym, ap, subst, ◌∙◌}
use Rattle.std.specs.Prelude.{◌==◌}
use Rattle.std.proofs.lemmas.Bool.{eq-eqb, cond-true}
use Rattle.chroot_state.specs.Held.{Held, IsHeld}
use Rattle.deb_relation.specs.declared.operator.Op.{Op}
use Rattle.farm_laws.specs.EventsLeft.{InPlace}
use Rattle.farm_laws.specs.Agrees.{Agrees, AgreesAfter}
use Rattle.farm_model.specs.Common.{highest_below, variant, variants, is_wanted, word_has, unpack_traps, unpacked, Universe}
use Rattle.farm_model.specs.declared.types.Trap.{Trap}
use Rattle.archive_laws.specs.LaneMoves.{seen, moved_by, outputs_made}
use Rattle.archive_laws.specs.Records.{Record, ready_in, after_load}
use Rattle.archive_laws.specs.Bounds.{IsInBounds}
use Rattle.archive_laws.proofs.Counted.{goes_count}
use Rattle.archive_laws.proofs.Safe.{unpack_safe}
use Rattle.plan_model.specs.Common.{Rows, Lane, Plan, lane, instruction_at, capacity, unpack_cost, IsAnnotation, IsSound, LaneState, Turn, Goes, past, newest, unless, unpacks, turn_of, goes_on}
use Rattle.plan_model.specs.declared.instructions.Instruction.{Instruction}
use Rattle.plan_model.specs.declared.instructions.Instruction.TheVariants.{Unpack}
use Rattle.lane_runner.specs.OnWay.{state_of, passed, IsOnWay}
use Rattle.lane_runner.specs.declared.runner.Runner.{Runner}
use Rattle.lane_runner.proofs.Traps.{IsFree, free_of}
use Rattle.lane_runner.proofs.AtStep.{place_behind, ready_is, made_is, has_known, is_possible}

module _ (u : Universe) (p : Plan) (rows : Rows) (sound : IsSound u p) (ann : IsAnnotation u p rows)
    (w : Runner) (c : Held) (r : Record) (on : IsOnWay u p rows w c r) (name : ℕ)
    (wanted : Option (Op × List ℕ))
    (here : instruction_at p w.lane w.done ≡ Some (Unpack name wanted)) (found : ℕ)
    (bounds : IsInBounds u p rows w.lane r.at name found) where
  abbrev st : LaneState
  st = state_of w c on.built

  abbrev of : Lane
  of = lane p w.lane

  ready_here : ready_in u p w.lane r.at ≡ st
  ready_here = ready_is u p rows sound w c r on (Unpack name wanted) refl here

  agrees : AgreesAfter u p rows w.lane
      (unpacks u of st name (newest u (seen name found) name wanted))
  agrees =
      unpack_safe u p rows sound ann w.lane on.in_plan st on.agrees on.there name found wanted here
      (has_known u p rows sound w c r on (Unpack name wanted) refl here refl name found bounds)
      (is_possible u p rows sound w c r on (Unpack name wanted) refl here refl name found bounds)

  -- what the code looks for
  newest_is : newest u (seen name found) name wanted
      ≡ highest_below (variants u name)
      (λ b. word_has found b && is_wanted u wanted (variant name b))
  unfolding newest
  newest_is =
      ap (λ (is : Bool). highest_below (variants u name)
      (λ b. (is && word_has found b) && is_wanted u wanted (variant name b)))
      (eq-eqb name name refl)

  module _ (o : Option ℕ)
      (picked : o ≡ highest_below (variants u name)
      (λ b. word_has found b && is_wanted u wanted (variant name b))) where
    top : newest u (seen name found) name wanted ≡ o
    top = newest_is ∙ sym picked

    -- there is such a variant
    pub some_newest : o ≡ None → ⊥
    some_newest e = subst (λ x. AgreesAfter u p rows w.lane (unpacks u of st name x)) (top ∙ e)
        agrees

    module _ (b : ℕ) (some : o ≡ Some b) where
      abbrev traps : List (Bool × Trap)
      traps = unpack_traps u (capacity u of) c.slots (variant name b)

      abbrev next : LaneState
      next = past of st (unpack_cost u (variant name b)) (unpacked c.slots (variant name b))

      free_and_safe : IsFree of st (unpack_cost u (variant name b)) traps
          × Agrees u p rows w.lane next
      free_and_safe =
          free_of u p rows w.lane of st (unpack_cost u (variant name b)) traps (Goes next)
          (subst (λ x. AgreesAfter u p rows w.lane (unpacks u of st name x)) (top ∙ some) agrees)

      -- its unpack meets no trap, and the cost is within the budget
      pub unpack_free : IsFree of st (unpack_cost u (variant name b)) traps
      unpack_free = free_and_safe.0

      turn_is : turn_of u (seen name found) of st (Some (Unpack name wanted)) ≡ Goes next
      turn_is = ap (unpacks u of st name) (top ∙ some)
          ∙ ap (λ x. unless x (Goes next)) unpack_free.all

      moved : (after_load u p w.lane name found r).at ≡ next
      moved =
          ap (λ (s : LaneState). moved_by u of name found r.at s (instruction_at p w.lane s.done))
          ready_here
          ∙ (ap (λ (x : Option Instruction). moved_by u of name found r.at st x) here
          ∙ (cond-true (name == name) _ r.at (eq-eqb name name refl)
          ∙ ap (λ (t : Turn). goes_on r.at t (λ n. n)) turn_is))

      -- its record has the chroot behind it
      pub unpack_recorded : (d : Held) (q : Record) → d.slots ≡ unpacked c.slots (variant name b)
          → q ≡ after_load u p w.lane name found r → q.at.chroot ≡ d.slots
      unpack_recorded d q slots q_is =
          ap (λ (x : Record). x.at.chroot) q_is
          ∙ (ap (λ (s : LaneState). s.chroot) moved ∙ sym slots)

      -- and the runner that takes it is behind the unpack
      pub unpack_goes : (v : Runner) (d : Held) (q : Record)
          → v ≡ passed of w (unpack_cost u (variant name b))
          → d.slots ≡ unpacked c.slots (variant name b) → d.base ≡ c.base → IsHeld u d
          → q ≡ after_load u p w.lane name found r → IsOnWay u p rows v d q
      unpack_goes v d q v_is slots base held q_is =
          subst (λ x. IsOnWay u p rows x d q) (sym v_is)
          (subst (IsOnWay u p rows (passed of w (unpack_cost u (variant name b))) d) (sym q_is)
          on_next)
        where
          is : state_of (passed of w (unpack_cost u (variant name b))) d on.built ≡ next
          is = ap (λ s. past of st (unpack_cost u (variant name b)) s) slots

          on_next : IsOnWay u p rows (passed of w (unpack_cost u (variant name b))) d
              (after_load u p w.lane name found r)
          on_next =
              let place = place_behind u p sound w.lane on.in_plan w.done in
              record {
                in_plan = on.in_plan;
                held = held;
                base = base ∙ on.base;
                built = on.built;
                agrees = subst (Agrees u p rows w.lane) (sym is) free_and_safe.1;
                there = place;
                turns = 0;
                came = is ∙ sym moved;
                from = subst (λ (s : LaneState). InPlace u of.instructions s.done s.made)
                    (sym moved)
                    place;
                drawn =
                    on.drawn
                    ∙ (sym (made_is u p rows sound w c r on (Unpack name wanted) refl here)
                    ∙ (sym (goes_count u of (sound.plan.branched w.lane on.in_plan)
                    (seen name found) st next (Unpack name wanted) here on.there turn_is)
                    ∙ ap (outputs_made u of) (sym moved)));
              }
