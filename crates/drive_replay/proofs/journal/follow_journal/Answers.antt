use Rattle.drive_replay.specs.Following.{life_of}
use Rattle.drive_replay.proofs.Reached.{followed_reached}
use Rattle.drive_replay.proofs.journal.follow_journal.Goals as goal

pub returns-clause-reached : goal.returns-clause-reached
returns-clause-reached c =
    followed_reached c.args.universe.now c.args.plan.now c.args.first c.args.entries.now
    (life_of c.in_ok-follower.follower) c.in_ok-follower.ensures.followed
