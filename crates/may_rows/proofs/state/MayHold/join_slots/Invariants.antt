use Rattle.std.proofs.Common.{◌≡◌, ◌≤◌, ◌-◌}
use Rattle.may_rows.specs.Joins.{joined_below}
use Rattle.may_rows.specs.Words.{AreWords, may_of}
use Rattle.may_rows.proofs.state.MayHold.join_slots.Given as goal

abbrev pub invariant-loop-from : goal.invariant-loop-from
invariant-loop-from l = record {
  inside : l.from ≤ l.names;
  words : AreWords l.universe l.self;
  map : may_of l.self
      ≡ joined_below l.universe (may_of l.first) l.from (may_of l.initial.self);
}

abbrev pub decreases-loop-from : goal.decreases-loop-from
decreases-loop-from l = l.names - l.from
