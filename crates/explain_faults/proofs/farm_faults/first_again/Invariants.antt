use Rattle.std.proofs.Common.{◌≡◌, [], length}
use Rattle.explain_faults.specs.Found.{first_again}
use Rattle.explain_faults.proofs.farm_faults.first_again.Given as goal

abbrev pub invariant-loop-left : goal.invariant-loop-left
invariant-loop-left l = first_again [] l.variants ≡ first_again l.before.items l.left

abbrev pub decreases-loop-left : goal.decreases-loop-left
decreases-loop-left l = length l.left
