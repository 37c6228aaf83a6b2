use Rattle.std.proofs.Common.{subst, sym}
use Rattle.drive_answers.specs.Statuses.{TellsPlan, TellsStanding}
use Rattle.drive_answers.proofs.status.answer_unaccepted.Goals as goal
use Rattle.drive_journal.specs.Finding.{finding_in}
use Rattle.farm_answers.proofs.AnswerLaws.{answered-by}
use Rattle.farm_answers.specs.Answers.{planned_in}
use Rattle.plan_reader.specs.TextsView.{texts_view}

pub returns-in-Ok-clause-told : goal.returns-in-Ok-clause-told
returns-in-Ok-clause-told g c =
    let json = c.args.kept.json in
    let found = finding_in c.args.kept.found in
    let of = c.in-Ok.planned in
    answered-by (TellsPlan of.universe of.plan.lanes found)
    (TellsStanding json found (planned_in (texts_view c.args.texts))) _ _ _
    (λ text status is. subst (λ made. TellsStanding json found made text status)
    (sym c.in-Ok.ensures.read) is)
    c.answer_planned.ensures.told
