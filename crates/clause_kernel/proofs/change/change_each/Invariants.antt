use Rattle.std.proofs.Common.{length, ◌-◌}
use Rattle.clause_kernel.proofs.Blocks.{IsChangedTo}
use Rattle.clause_kernel.proofs.change.change_each.Given as goal

abbrev pub invariant-loop-a : goal.invariant-loop-a
invariant-loop-a g l = IsChangedTo g.T.PairChange.change l.at l.a l.b l.initial.a

abbrev pub decreases-loop-a : goal.decreases-loop-a
decreases-loop-a g l = length l.initial.a - l.at

abbrev pub invariant-loop-at : goal.invariant-loop-at
invariant-loop-at g l = IsChangedTo g.T.PairChange.change l.at l.a l.b l.fn.a

abbrev pub decreases-loop-at : goal.decreases-loop-at
decreases-loop-at g l = length l.initial.a - l.at
