use Rattle.lane_runner.specs.Calls.{IsRunning, IsSameEnd}
use Rattle.run_cases.proofs.in_turns.play.Given as goal

abbrev pub invariant-loop-lane : goal.invariant-loop-lane
invariant-loop-lane l =
    let a = l.a.end.end.seat in
    let b = l.b.end.end.seat in
    let a0 = l.fn.a.end.end.seat in
    let b0 = l.fn.b.end.end.seat in
    record {
      first : IsRunning l.a.accepted.now l.a.runner l.a.chroot a.about a.lane a.log;
      second : IsRunning l.b.accepted.now l.b.runner l.b.chroot b.about b.lane b.log;
      same_first : IsSameEnd a0.table a0.about a0.lane a.table a.about a.lane;
      same_second : IsSameEnd b0.table b0.about b0.lane b.table b.about b.lane;
    }
