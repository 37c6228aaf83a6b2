use Rattle.std.proofs.Common.{◌==◌, not}
use Rattle.clause_kernel.proofs.Lanes.{any-lanes, tests-pair, top-mask}
use Rattle.clause_kernel.proofs.compare.DiffersPairTest.any_lane.Goals as goal

pub returns : goal.returns
returns c =
    any-lanes _ _ c.args.x c.args.y
    (tests-pair _ _ (λ x y. top-mask (not (x == y))) c.args.x c.args.y) c.requires.x_len
