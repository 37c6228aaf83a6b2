use Rattle.drive_answers.specs.Statuses.{TellsPlan, TellsStanding}
use Rattle.drive_answers.proofs.StatusLaws.{accepted_told}
use Rattle.drive_answers.proofs.status.answer_kept.Goals as goal
use Rattle.drive_journal.specs.Finding.{finding_in}
use Rattle.farm_answers.proofs.AnswerLaws.{answered-by}
use Rattle.farm_answers.specs.Answers.{planned_in}
use Rattle.plan_reader.specs.TextsView.{texts_view}

pub returns-in-Ok-clause-told : goal.returns-in-Ok-clause-told
returns-in-Ok-clause-told g c =
    let a = c.in-Ok.accepted in
    let found = finding_in c.args.kept.found in
    let of = planned_in (texts_view c.args.texts) in
    answered-by (TellsPlan a.universe a.plan found) (TellsStanding c.args.kept.json found of) _ _ _
    (accepted_told c.args.kept.json found of a c.in-Ok.ensures.verdict)
    c.answer_accepted.ensures.told
