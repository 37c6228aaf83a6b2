use Rattle.drive_run.proofs.StartLaws.{noted_by}
use Rattle.drive_run.proofs.driven.notes_of.Goals as goal

pub returns-clause-noted : goal.returns-clause-noted
returns-clause-noted c =
    noted_by c.args.accepted.now c.universe-universe.result.now c.plan-plan.result.now
    c.args.entries.now c.in_ok-notes.notes c.universe-universe.ensures c.plan-plan.ensures.lanes
    c.plan-plan.ensures.counted c.in_ok-notes.ensures.followed
