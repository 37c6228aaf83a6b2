use Rattle.std.proofs.Common.{refl}
use Rattle.drive_answers.specs.Statuses.{IsFine, TellsFault, TellsPlan}
use Rattle.drive_answers.proofs.StatusLaws.{fault_told, life_told}
use Rattle.drive_journal.specs.Finding.{finding_in}
use Rattle.drive_replay.specs.Following.{life_of}
use Rattle.farm_answers.proofs.AnswerLaws.{answered-by}
use Rattle.drive_answers.proofs.status.answer_planned.Goals as goal

pub returns-in-Ok-clause-told : goal.returns-in-Ok-clause-told
returns-in-Ok-clause-told g c =
    let p = c.args.planned.now in
    let found = finding_in c.args.kept.found in
    answered-by IsFine (TellsPlan p.universe p.plan.lanes found) _ _ _
    (life_told p.universe p.universe p.plan.lanes p.plan found (life_of c.in-Ok.run'.follower) refl refl
    c.requires.counted c.in-Ok.ensures.life)
    c.answer_untimed.ensures

pub returns-in-Err-clause-told : goal.returns-in-Err-clause-told
returns-in-Err-clause-told g c =
    let p = c.args.planned.now in
    let found = finding_in c.args.kept.found in
    answered-by (TellsFault c.in-Err.fault) (TellsPlan p.universe p.plan.lanes found) _ _ _
    (fault_told p.universe p.universe p.plan.lanes p.plan found c.in-Err.fault refl refl
    c.requires.counted c.in-Err.ensures.misfit)
    c.answer_fault.ensures.told
