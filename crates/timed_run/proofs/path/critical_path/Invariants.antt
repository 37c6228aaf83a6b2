use Rattle.std.proofs.Common.{◌≡◌, ◌<◌, ℕ, Some, length}
use Rattle.timed_run.specs.Beginning.{Beginning}
use Rattle.timed_run.specs.Path.{IsLinked}
use Rattle.timed_run.specs.Timed.{IsTimedRun}
use Rattle.timed_run.proofs.Paths.{StartsWith, left_of}
use Rattle.timed_run.proofs.path.critical_path.Given as goal

abbrev pub invariant-loop-next : goal.invariant-loop-next
invariant-loop-next g l = record {
  linked : (b : Beginning) → IsTimedRun (g.F.Farm.universe l.farm) (g.F.Farm.plan l.farm) b
      l.run.events.items l.run.end
      → IsLinked (g.F.Farm.universe l.farm) (g.F.Farm.plan l.farm) b l.events l.path.items l.next;
  starts : (b : Beginning) → IsTimedRun (g.F.Farm.universe l.farm) (g.F.Farm.plan l.farm) b
      l.run.events.items l.run.end
      → StartsWith b l.events l.run.end l.path.items l.next;
  within : (k : ℕ) → l.next ≡ Some k → k < length l.events;
}

abbrev pub decreases-loop-next : goal.decreases-loop-next
decreases-loop-next g l = left_of l.events l.next
