use Rattle.std.proofs.Common.{◌≡◌, ◌+◌, ◌-◌, ◌*◌, ◌^◌, length, subst, arith}
use Rattle.plan_reader.specs.LongestWays.{AreWithin}
use Rattle.plan_reader.proofs.Counts.{ways-goes}
use Rattle.plan_reader.proofs.events.lane_events.Goals as goal

pub loop-i-preserved : goal.loop-i-preserved
loop-i-preserved c =
    let xs = c.args.instructions.now in
    let n = c.loop-i.i in
    let more : (length xs - n) * 2 ^ 32 + 2 ^ 32 ≡ (length xs - (n - 1)) * 2 ^ 32 =
    omega (arith, c.loop-i-test.true, c.loop-i.auto.i) in
    record {
      so_far = ways-goes c.args.universe.now xs n c.index-instructions-i.result _ _
          c.loop-i-test.true c.loop-i.auto.i c.index-instructions-i.is c.loop-i.invariant.so_far
          c.ways_ahead-ways.ensures.ways;
      few = subst (λ k. AreWithin k c.ways_ahead-ways.result) more
          (c.ways_ahead-ways.ensures.few ((length xs - n) * 2 ^ 32) c.loop-i.invariant.few);
    }
