use Rattle.drive_replay.specs.Following.{life_of}
use Rattle.drive_replay.proofs.Replays.{replayed}
use Rattle.drive_replay.proofs.journal.replay.Goals as goal

pub returns-clause-followed : goal.returns-clause-followed
returns-clause-followed c =
    replayed c.args.universe.now c.args.plan.now c.args.first c.args.entries.now
    (life_of c.in_ok-follow_journal.field-0) c.in_ok-follow_journal.ensures.followed
