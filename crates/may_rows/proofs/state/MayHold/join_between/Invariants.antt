use Rattle.std.proofs.Common.{◌≡◌, ℕ, ◌≤◌}
use Rattle.plan_model.specs.May.{May}
use Rattle.may_rows.specs.Joins.{joined_below}
use Rattle.may_rows.specs.Words.{AreWords, may_of}
use Rattle.may_rows.proofs.state.MayHold.join_between.Given as goal

-- the names so far are joined, and the others are as they were
abbrev pub invariant-loop-name : goal.invariant-loop-name
invariant-loop-name l = record {
  low : l.from ≤ l.name;
  words : AreWords l.universe l.self;
  map : (m : May) → may_of l.initial.self ≡ joined_below l.universe (may_of l.first) l.from m
      → may_of l.self ≡ joined_below l.universe (may_of l.first) l.name m;
  others : (k : ℕ) → l.name ≤ k
      → (may_of l.self).slots k ≡ (may_of l.initial.self).slots k;
}
