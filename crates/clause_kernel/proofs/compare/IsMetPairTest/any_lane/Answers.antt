use Rattle.std.proofs.Common.{◌≡◌, ◌==◌, ◌^◌, ◌-◌, not, Bool, true, false, cond, ◌&&◌, bit_and, refl}
use lib.Lanes.{top}
use Rattle.clause_kernel.specs.Kernels.{lies_in}
use Rattle.clause_kernel.proofs.Lanes.{any-lanes, tests-both}
use Rattle.clause_kernel.proofs.compare.IsMetPairTest.any_lane.Goals as goal

both : (b c : Bool) → top 63 (bit_and (cond b (2 ^ 64 - 1) 0) (cond c (2 ^ 64 - 1) 0)) ≡ (b && c)
both true true = refl
both true false = refl
both false true = refl
both false false = refl

pub returns : goal.returns
returns c =
    any-lanes _ _ c.args.x c.args.y
    (tests-both _ _ _ _ 0 _ (λ x y. both (not (x == 0)) (lies_in x y)) 8 c.args.x c.args.y
    c.requires.x_len c.requires.y_len) c.requires.x_len
