use Rattle.clause_kernel.specs.Kernels.{shares_bit}
use Rattle.clause_kernel.proofs.Lanes.{any-lanes, tests-splat, top-mask}
use Rattle.clause_kernel.proofs.compare.SharesBitPairTest.any_lane.Goals as goal

pub returns : goal.returns
returns c =
    any-lanes _ _ c.args.x c.args.y
    (tests-splat _ _ 0 _ (λ x y. top-mask (shares_bit x y)) 8 c.args.x c.args.y c.requires.x_len
    c.requires.y_len) c.requires.x_len
