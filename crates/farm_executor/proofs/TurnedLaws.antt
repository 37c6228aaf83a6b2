-- A lane from one turn to the next, and what comes of lanes that have taken their turns.
use Rattle.std.proofs.Common.{◌≡◌, ◌⊎◌, inl, inr, ℕ, ◌<◌, List, length, Some, slice_get, refl, sym, ap, subst, ◌∙◌, arith}
use Rattle.atomic_table.specs.Seated.{TableId}
use Rattle.chroot_state.specs.Held.{Held, IsHeld}
use Rattle.farm_executor.specs.FarmRuns.{IsStoppedRun}
use Rattle.farm_executor.specs.LaneEnds.{AreRising}
use Rattle.farm_executor.specs.Played.{HasRun}
use Rattle.farm_executor.specs.Seated.{IsSeatOf, blank_seat}
use Rattle.farm_executor.specs.Turned.{IsStopIn, IsTurned}
use Rattle.farm_laws.proofs.Archive.{element}
use Rattle.archive_laws.specs.Records.{Record}
use Rattle.lane_runner.specs.Calls.{IsRunning}
use Rattle.lane_runner.specs.OnWay.{IsEnded}
use Rattle.lane_runner.specs.declared.run.LaneStop.{LaneStop}
use Rattle.lane_runner.specs.declared.run.TheConstants.{GAVE_UP}
use Rattle.lane_runner.specs.declared.runner.Runner.{Runner}
use Rattle.plan_verifier.specs.Accepted.{AcceptedPlan}
use Rattle.word_archive.specs.Seats.{LaneSeatOf}

-- behind no turn
pub unturned : (home : TableId) (a : AcceptedPlan) (l : ℕ) (r : Record) (of : AcceptedPlan)
    (w : Runner) (c : Held) → IsRunning of w c a l r → IsTurned home a l r home of w c a l r
unturned home a l r of w c is = record {
  same = record { home_is = refl; about_is = refl; lane_is = refl };
  kept = record { halted = refl; saw = refl };
  running = is;
}

-- behind some turns, and then some more
pub turned_on : (h : TableId) (a : AcceptedPlan) (l : ℕ) (r : Record) (h' : TableId)
    (of : AcceptedPlan) (w : Runner) (c : Held) (a' : AcceptedPlan) (l' : ℕ) (r' : Record)
    (h'' : TableId) (of' : AcceptedPlan) (w' : Runner) (c' : Held) (a'' : AcceptedPlan) (l'' : ℕ)
    (r'' : Record) → IsTurned h a l r h' of w c a' l' r'
    → IsTurned h' a' l' r' h'' of' w' c' a'' l'' r''
    → IsTurned h a l r h'' of' w' c' a'' l'' r''
turned_on h a l r h' of w c a' l' r' h'' of' w' c' a'' l'' r'' p q = record {
  same = record {
    home_is = q.same.home_is ∙ p.same.home_is;
    about_is = q.same.about_is ∙ p.same.about_is;
    lane_is = q.same.lane_is ∙ p.same.lane_is;
  };
  kept = record {
    halted = q.kept.halted ∙ p.kept.halted;
    saw = q.kept.saw ∙ p.kept.saw;
  };
  running = q.running;
}

-- a lane that began with a blank seat, at the same end
pub turned_seat : (t : TableId) (a : AcceptedPlan) (k : ℕ) (q : LaneSeatOf) (of : AcceptedPlan)
    (w : Runner) (c : Held) (q' : LaneSeatOf) → q ≡ blank_seat t a k
    → IsTurned q.table q.about q.lane q.log q'.table of w c q'.about q'.lane q'.log
    → IsSeatOf t a k q'
turned_seat t a k q of w c q' seat turned =
    let table = turned.same.home_is ∙ ap (λ (s : LaneSeatOf). s.table) seat in
    let about = turned.same.about_is ∙ ap (λ (s : LaneSeatOf). s.about) seat in
    let lane = turned.same.lane_is ∙ ap (λ (s : LaneSeatOf). s.lane) seat in
    λ i. record { table = table i; about = about i; lane = lane i; log = q'.log }

-- a lane that began with a blank seat, and is at its end
pub turned_run : (t : TableId) (a : AcceptedPlan) (gives_up : Type 0) (k : ℕ) (q : LaneSeatOf)
    (of : AcceptedPlan) (w : Runner) (c : Held) (q' : LaneSeatOf) (stop : LaneStop)
    → q ≡ blank_seat t a k
    → IsTurned q.table q.about q.lane q.log q'.table of w c q'.about q'.lane q'.log
    → IsEnded of.universe of.plan w.lane w.spent c q'.log → stop.code ≡ 0
    → stop.instruction ≡ 0 → AreRising q'.log.serials → HasRun a gives_up k stop c w.spent q'.log
turned_run t a gives_up k q of w c q' stop seat turned ended code place rising =
    let about : of ≡ a =
    sym turned.running.about_is ∙ turned.same.about_is ∙ ap (λ (s : LaneSeatOf). s.about) seat in
    let lane : w.lane ≡ k =
    sym turned.running.lane_is ∙ turned.same.lane_is ∙ ap (λ (s : LaneSeatOf). s.lane) seat in
    let unhalted = turned.kept.halted ∙ ap (λ (s : LaneSeatOf). s.log.halted) seat in
    record {
      base = c;
      first = q.log;
      end = record {
        held = subst (λ (b : AcceptedPlan). IsHeld b.universe c) about turned.running.on.held;
        code = inl code;
        whole = λ is. place;
        unbegun = λ is. place;
        ended = λ is. (
          subst (λ (m : AcceptedPlan × ℕ). IsEnded m.0.universe m.0.plan m.1 w.spent c q'.log)
              (λ i. (about i, lane i)) ended,
          unhalted,
        );
        gave_up = λ is. absurd (omega (arith, code, is));
        told = λ is. absurd (omega (arith, code, is));
        never = λ is. absurd (omega (arith, code, is));
      };
      rising = rising;
    }

-- the ends of a run in which this lane gave up
pub stopped_by : (a : AcceptedPlan) (stops : List LaneStop) (cause : ℕ)
    → length stops ≡ length a.plan → cause < length stops
    → ((k : ℕ) (e : LaneStop) → slice_get stops k ≡ Some e → IsStopIn cause k e)
    → IsStoppedRun a (Unit {0}) stops GAVE_UP cause
stopped_by a stops cause long there each =
    let at = element stops cause there in
    record {
      long = long;
      codes = λ k e is. elim (each k e is) [
        | inl gave ↦ inr (inl gave.1)
        | inr other ↦ elim other.1 [ inl ended ↦ inl ended.0 | inr short ↦ inr (inr (inl short)) ]
      ];
      unnamed = λ k e is none. elim (each k e is) [
        | inl gave ↦ elim none [
          | inl zero ↦ absurd (omega (arith, zero, gave.1))
          | inr never ↦ absurd (omega (arith, never, gave.1))
        ]
        | inr other ↦ elim other.1 [
          | inl ended ↦ ended.1
          | inr short ↦ elim none [
            | inl zero ↦ absurd (omega (arith, zero, short))
            | inr never ↦ absurd (omega (arith, never, short))
          ]
        ]
      ];
      cause = inr (
        refl,
        λ k e lt is never. elim (each k e is) [
          | inl gave ↦ omega (arith, never, gave.1)
          | inr other ↦ elim other.1 [
            | inl ended ↦ omega (arith, never, ended.0)
            | inr short ↦ omega (arith, never, short)
          ]
        ],
        record {
          there = (
            at.0,
            at.1,
            elim (each cause at.0 at.1) [ inl gave ↦ gave.1 | inr other ↦ absurd (other.0 refl) ],
          );
          before = λ k e lt is up. elim (each k e is) [
            | inl gave ↦ omega (arith, lt, gave.0)
            | inr other ↦ elim other.1 [
              | inl ended ↦ omega (arith, up, ended.0)
              | inr short ↦ omega (arith, up, short)
            ]
          ];
        },
      );
      gave_up = λ k e is up. tt;
    }
