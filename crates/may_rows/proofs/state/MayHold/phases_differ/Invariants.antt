use Rattle.std.proofs.Common.{◌≡◌, ℕ, ◌<◌, ◌≤◌, ◌-◌, true}
use Rattle.plan_model.specs.Join.{is_same_phase}
use Rattle.may_rows.specs.Words.{may_of}
use Rattle.may_rows.proofs.state.MayHold.phases_differ.Given as goal

abbrev pub invariant-loop-from : goal.invariant-loop-from
invariant-loop-from l = record {
  inside : l.from ≤ l.names;
  same : (k : ℕ) → k < l.from
      → is_same_phase ((may_of l.first).slots k) ((may_of l.self).slots k) ≡ true;
}

abbrev pub decreases-loop-from : goal.decreases-loop-from
decreases-loop-from l = l.names - l.from
