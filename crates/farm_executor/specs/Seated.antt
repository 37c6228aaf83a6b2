-- The lanes of a run before they start, and their seats when they come back. Parameters: a the
-- accepted plan, t the number of the archive's table, l a lane, q its seat.
--
--   AreLaneBases         the base chroots of the first lanes
--   blank_log_of         the record of a lane that has not begun
--   blank_seat           its seat then
--   IsSeatedAt           a lane with its chroot and its seat
--   IsJobOf              that one, in its base chroot
--   IsSeatOf             a seat of that table, plan and lane
--   AreSameSeats         all seats, with other records
use Rattle.std.specs.Prelude.{◌≡◌, ℕ, List, Option, Some, length, slice_get}
use Rattle.atomic_table.specs.Seated.{TableId}
use Rattle.chroot_state.specs.Held.{Held, IsHeld, opened}
use Rattle.archive_laws.specs.Records.{Record, blank}
use Rattle.plan_model.specs.Plan.{lane}
use Rattle.plan_verifier.specs.Accepted.{AcceptedPlan}
use Rattle.word_archive.specs.Seats.{LaneSeatOf, LaneSeatsOf, seat_of}

-- the base chroots of the first n lanes
pub record AreLaneBases (a : AcceptedPlan) (n : ℕ) (chroots : List Held) : Type 0 where
  pub long : length chroots ≡ n
  pub each : (l : ℕ) (c : Held) → slice_get chroots l ≡ Some c
      → (c ≡ opened a.universe (lane a.plan l).base) × IsHeld a.universe c

abbrev pub blank_log_of : AcceptedPlan → ℕ → Option Record
blank_log_of a l = Some (blank a.universe (lane a.plan l))

-- the seat of a lane that has not begun
abbrev pub blank_seat : TableId → AcceptedPlan → ℕ → LaneSeatOf
blank_seat t a l = seat_of t a l (blank a.universe (lane a.plan l))

-- a seat of that table, plan and lane, whatever its record
abbrev pub IsSeatOf : TableId → AcceptedPlan → ℕ → LaneSeatOf → Type 0
IsSeatOf t a l q = q ≡ seat_of t a l q.log

-- lane l has this chroot, and its seat with a blank record
pub record IsSeatedAt (t : TableId) (a : AcceptedPlan) (l : ℕ) (base : Held) (number : ℕ)
    (c : Held) (q : LaneSeatOf) : Type 0 where
  pub number_is : number ≡ l
  pub chroot_is : c ≡ base
  pub seat_is : q ≡ blank_seat t a l

-- lane l has its base chroot, and its seat with a blank record
pub record IsJobOf (t : TableId) (a : AcceptedPlan) (l : ℕ) (number : ℕ) (c : Held)
    (q : LaneSeatOf) : Type 0 where
  pub seated : IsSeatedAt t a l (opened a.universe (lane a.plan l).base) number c q
  pub held : IsHeld a.universe c

-- the same seats, whichever are in
pub record AreSameSeats (old new : LaneSeatsOf) : Type 0 where
  pub table : new.table ≡ old.table
  pub about : new.about ≡ old.about
  pub stopped : new.stopped ≡ old.stopped
  pub logs : length new.logs ≡ length old.logs
