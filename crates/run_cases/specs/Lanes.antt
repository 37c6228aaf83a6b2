-- A lane that takes turns, and the seats of its archive. Parameters: a the accepted plan, w the
-- lane's runner, c its chroot, q its seat, seats those of the archive.
--
--   IsSeatedIn     the lane can take turns, and its seat can be given back to the others
use Rattle.std.specs.Prelude.{◌≡◌, ◌<◌, length}
use Rattle.chroot_state.specs.Held.{Held}
use Rattle.lane_runner.specs.Calls.{IsRunning}
use Rattle.lane_runner.specs.declared.runner.Runner.{Runner}
use Rattle.plan_verifier.specs.Accepted.{AcceptedPlan}
use Rattle.word_archive.specs.Seats.{LaneSeatOf, LaneSeatsOf}

pub record IsSeatedIn (a : AcceptedPlan) (w : Runner) (c : Held) (q : LaneSeatOf)
    (seats : LaneSeatsOf) : Type 0 where
  pub running : IsRunning a w c q.about q.lane q.log
  pub table : q.table ≡ seats.table
  pub about : q.about ≡ seats.about
  pub lane : q.lane < length seats.logs
