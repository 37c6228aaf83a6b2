use Rattle.std.proofs.Common.{◌≡◌, ◌-◌, ◌*◌, ◌^◌, length, drop}
use Rattle.plan_reader.specs.LongestWays.{ways_of, AreWithin}
use Rattle.plan_model.specs.Plan.{ways}
use Rattle.plan_reader.proofs.events.lane_events.Given as goal

abbrev pub invariant-loop-i : goal.invariant-loop-i
invariant-loop-i l = record {
  so_far : ways_of l.ways ≡ ways l.universe (drop l.i l.instructions);
  few : AreWithin ((length l.instructions - l.i) * 2 ^ 32) l.ways;
}
