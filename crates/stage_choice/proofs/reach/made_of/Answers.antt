use Rattle.std.proofs.Common.{◌<◌, ◌≤◌, length, arith}
use Rattle.stage_choice.proofs.OrderLaws.{length-AreReached}
use Rattle.stage_choice.proofs.reach.made_of.Goals as goal

pub loop-made-smaller : goal.loop-made-smaller
loop-made-smaller c =
    let builds = c.args.builds.now in
    let before = c.loop-made.made.order.items in
    let after = c.make_more.new.made.order.items in
    let longer : length before < length after = c.in_ok-make_more.ensures.longer c.if-branch.true in
    let most : length after ≤ length builds =
    length-AreReached builds after c.in_ok-make_more.ensures.made.reached in
    omega (arith, longer, most)
