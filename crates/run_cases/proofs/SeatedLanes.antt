-- Lanes that take turns, and the seats of their archive.
use Rattle.std.proofs.Common.{◌≡◌, ℕ, ◌<◌, length, Some, sym, ap, subst, ◌∙◌, arith}
use Rattle.std.specs.Prelude.{Result, Ok, Err, IfOk}
use Rattle.std.specs.Result.{result_ok}
use Rattle.std.proofs.lemmas.List.{length-map}
use Rattle.std.proofs.lemmas.Option.{same_Some}
use Rattle.atomic_table.specs.Seated.{TableId}
use Rattle.chroot_state.specs.Held.{Held}
use Rattle.farm_executor.specs.Seated.{AreSameSeats, blank_seat}
use Rattle.lane_runner.specs.Calls.{IsRunning}
use Rattle.lane_runner.specs.declared.runner.Runner.{Runner}
use Rattle.plan_verifier.specs.Accepted.{AcceptedPlan}
use Rattle.word_archive.specs.Seats.{LaneSeatOf, LaneSeatsOf, opened_seats, blank_log}
use Rattle.run_cases.specs.Lanes.{IsSeatedIn}

-- what holds of an answer holds of what it gives
pub from_ok : {T E : Type 0} (P : T → Type 0) (r : Result T E) (x : T) → Some x ≡ result_ok r
    → IfOk r P → P x
from_ok P (Ok y) x is h = subst P (sym (same_Some x y is)) h
from_ok P (Err e) x is h = absurd (cc)

-- a lane with its first seat, whose seat was taken from those of an archive that was opened
pub seated : (a b : AcceptedPlan) (w : Runner) (c : Held) (t : TableId) (k : ℕ) (q : LaneSeatOf)
    (old new : LaneSeatsOf) → IsRunning a w c q.about q.lane q.log → q ≡ blank_seat t b k
    → old ≡ opened_seats t b → AreSameSeats old new → k < length b.plan → IsSeatedIn a w c q new
seated a b w c t k q old new run is opened taken lt =
    let logs : length old.logs ≡ length b.plan =
    ap (λ (s : LaneSeatsOf). length s.logs) opened ∙ length-map b.plan (blank_log b.universe) in
    let lane = ap (λ (x : LaneSeatOf). x.lane) is in
    record {
      running = run;
      table = ap (λ (x : LaneSeatOf). x.table) is
          ∙ sym (taken.table ∙ ap (λ (s : LaneSeatsOf). s.table) opened);
      about = ap (λ (x : LaneSeatOf). x.about) is
          ∙ sym (taken.about ∙ ap (λ (s : LaneSeatsOf). s.about) opened);
      lane = omega (arith, lane, taken.logs, logs, lt);
    }
