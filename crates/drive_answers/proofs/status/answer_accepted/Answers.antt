use Rattle.drive_answers.specs.Statuses.{IsFine, TellsFault, TellsPlan}
use Rattle.drive_answers.proofs.StatusLaws.{fault_told, life_told}
use Rattle.drive_journal.specs.Finding.{finding_in}
use Rattle.drive_replay.specs.Following.{life_of}
use Rattle.farm_answers.proofs.AnswerLaws.{answered-by}
use Rattle.drive_answers.proofs.status.answer_accepted.Goals as goal

pub returns-in-Ok-clause-told : goal.returns-in-Ok-clause-told
returns-in-Ok-clause-told g c =
    let a = c.args.accepted.now in
    let found = finding_in c.args.kept.found in
    answered-by IsFine (TellsPlan a.universe a.plan found) _ _ _
    (life_told a.universe c.universe.result.now a.plan c.plan.result.now found
    (life_of c.in-Ok.run'.follower) c.universe.ensures c.plan.ensures.lanes c.plan.ensures.counted
    c.in-Ok.ensures.life)
    c.answer_timed.ensures

pub returns-in-Err-clause-told : goal.returns-in-Err-clause-told
returns-in-Err-clause-told g c =
    let a = c.args.accepted.now in
    let found = finding_in c.args.kept.found in
    answered-by (TellsFault c.in-Err.fault) (TellsPlan a.universe a.plan found) _ _ _
    (fault_told a.universe c.universe.result.now a.plan c.plan.result.now found c.in-Err.fault
    c.universe.ensures c.plan.ensures.lanes c.plan.ensures.counted c.in-Err.ensures.misfit)
    c.answer_fault.ensures.told
