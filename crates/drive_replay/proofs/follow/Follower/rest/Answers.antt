use Rattle.std.proofs.Common.{subst, sym}
use Rattle.drive_replay.specs.Follow.{Life}
use Rattle.drive_replay.specs.Following.{IsReached, life_of}
use Rattle.drive_replay.proofs.Reached.{rested_reached}
use Rattle.drive_replay.proofs.follow.Follower.rest.Goals as goal

pub returns-clause-reached : goal.returns-clause-reached
returns-clause-reached c u p is =
    subst (λ (x : Life). IsReached u p x.farm) (sym c.rest_lanes.ensures)
    (rested_reached u p (life_of c.args.self.now) is)
