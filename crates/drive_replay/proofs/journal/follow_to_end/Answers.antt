use Rattle.drive_replay.specs.Following.{life_of}
use Rattle.drive_replay.proofs.Reached.{ended_reached}
use Rattle.drive_replay.proofs.journal.follow_to_end.Goals as goal

pub returns-clause-reached : goal.returns-clause-reached
returns-clause-reached c =
    ended_reached c.args.universe.now c.args.plan.now c.args.first c.args.entries.now
    (life_of c.in_ok-followed.followed.follower) c.in_ok-followed.ensures.followed
