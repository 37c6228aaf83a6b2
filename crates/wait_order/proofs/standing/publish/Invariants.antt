use Rattle.std.proofs.Common.{◌≡◌, length, map, take}
use Rattle.farm_model.specs.Packages.{names}
use Rattle.plan_model.specs.Order.{Give}
use Rattle.wait_order.specs.Standing.{Makes}
use Rattle.wait_order.proofs.standing.publish.Given as goal

-- the outputs so far
abbrev pub invariant-loop-output : goal.invariant-loop-output
invariant-loop-output l =
    (length l.archive ≡ names l.universe)
    × Makes l.universe l.number (map Give (take l.output-index l.outputs)) l.initial.order.items
    l.initial.archive l.order.items l.archive
