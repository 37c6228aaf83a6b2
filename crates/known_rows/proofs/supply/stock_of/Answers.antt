use Rattle.known_rows.proofs.HitLaws.{lanes_known}
use Rattle.known_rows.proofs.supply.stock_of.Goals as goal

pub invariant_of-known : goal.invariant_of-known
invariant_of-known c =
    record {
      sound = c.requires.sound.universe;
      known = lanes_known c.args.universe.now c.args.plan.now.lanes c.args.lanes.now
          c.requires.lanes c.requires.sound.universe;
    }
