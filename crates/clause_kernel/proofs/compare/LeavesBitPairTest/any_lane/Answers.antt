use Rattle.std.proofs.Common.{not}
use Rattle.clause_kernel.specs.Kernels.{lies_in}
use Rattle.clause_kernel.proofs.Lanes.{any-lanes, tests-first, top-mask}
use Rattle.clause_kernel.proofs.compare.LeavesBitPairTest.any_lane.Goals as goal

pub returns : goal.returns
returns c =
    any-lanes _ _ c.args.x c.args.y
    (tests-first _ _ _ (λ x y. top-mask (not (lies_in x y))) c.args.x c.args.y) c.requires.x_len
