use Rattle.std.proofs.Common.{ap, subst, ◌∙◌}
use Rattle.drive_answers.specs.Statuses.{AnswersStatus, TellsStanding}
use Rattle.drive_answers.proofs.status.answer_status.Goals as goal
use Rattle.drive_journal.specs.Finding.{finding_in}
use Rattle.drive_journal.specs.HeadText.{finding, head_text}
use Rattle.farm_answers.proofs.AnswerLaws.{answered-by}
use Rattle.farm_answers.specs.Answers.{planned_in}
use Rattle.plan_reader.specs.TextsView.{texts_view}

pub returns-clause-told : goal.returns-clause-told
returns-clause-told g c =
    let json = c.args.of.json in
    let journal = c.args.of.journal.now in
    let texts = texts_view c.args.of.texts in
    answered-by (TellsStanding json (finding_in c.find.result) (planned_in texts))
    (AnswersStatus json journal texts) _ _ _
    (λ text status is. subst (λ f. TellsStanding json f (planned_in texts) text status)
    (c.find.ensures
    ∙ ap (λ h. finding h journal) (c.as_slice.ensures.value ∙ c.in_ok-head.ensures ∙ ap head_text c.in_ok-sums.ensures)) is)
    c.answer_kept.ensures.told
