-- The laws of an annotated plan, from what holds of each state that is reached.
use Rattle.std.proofs.Common.{◌≡◌, ℕ, ◌<◌, false, length}
use Rattle.farm_model.proofs.BelowLaws.{every_below-fails}
use Rattle.plan_model.specs.Common.{Plan, lane, State, start, lane_state, is_finished, lane_cost}
use Rattle.std.proofs.lemmas.Bool.{leb-false}
use Rattle.farm_laws.specs.Laws.{EveryInterleaving, StatesAreForeseen, LanesAreWithinBudget, SchedulesMeetNoTrap}
use Rattle.farm_laws.proofs.EventsLeft.{runs_end}
use Rattle.farm_laws.proofs.Possible.{nothing_else}
use Rattle.farm_laws.proofs.Progress.{some_move}
use Rattle.farm_laws.proofs.Whole.{holds_at_start, holds_after, never_trapped}
use Rattle.farm_laws.proofs.Budget.{cost_within, spent_within, play_safe}

-- in an unfinished state some lane has an instruction left
unfinished : (p : Plan) (s : State) → is_finished p s ≡ false
    → (l : ℕ) × (l < length p) × ((lane_state s l).done < length (lane p l).instructions)
unfolding is_finished
unfinished p s e =
    let r = every_below-fails (length p) _ e in
    (r.0, r.1, leb-false (length (lane p r.0).instructions) (lane_state s r.0).done r.2)

pub every_interleaving : EveryInterleaving
every_interleaving u p rows order sound annotation is_order =
    let holds = holds_after u p rows sound annotation.keeps annotation.safe in
    record {
      no_trap =
          λ schedule s r l trap. never_trapped u p rows sound annotation.keeps annotation.safe s
          (holds schedule s r) l trap;
      goes_on = λ schedule s r e. let h = holds schedule s r in
          let left = unfinished p s e in
          some_move u p s h.archive_holds.places h.archive_holds.archive_is
          (never_trapped u p rows sound annotation.keeps annotation.safe s h) order is_order
          left.0 left.1 left.2;
      bounded = λ schedule s r. runs_end u p sound schedule s r;
    }

pub states_are_foreseen : StatesAreForeseen
states_are_foreseen u p rows sound annotation s reached =
    let h = holds_after u p rows sound annotation.keeps annotation.safe reached.0 s reached.1 in
    record {
      known = λ l v lt e. (h.archive_holds.rows_there.knows l lt).0 v e;
      facts = h.archive_holds.rows_there.follows;
      bounded = λ l v lt e. nothing_else u p s l v lt h.archive_holds.archive_is e;
      allowed = λ l lt. (h.agrees l lt).allows;
    }

pub lanes_are_within_budget : LanesAreWithinBudget
unfolding lane_cost
lanes_are_within_budget u p rows sound annotation s reached =
    let h = holds_after u p rows sound annotation.keeps annotation.safe reached.0 s reached.1 in
    record {
      spent = λ l lt. spent_within u p rows l (sound.plan.branched l lt) (lane_state s l)
          (h.agrees l lt);
      cost = λ l lt. cost_within u p rows annotation.safe l (length (lane p l).instructions) lt;
    }

pub schedules_meet_no_trap : SchedulesMeetNoTrap
schedules_meet_no_trap u p rows sound annotation schedule =
    play_safe u p rows sound annotation.keeps annotation.safe schedule 1 (start u p)
    (holds_at_start u p rows sound annotation.keeps annotation.safe)
