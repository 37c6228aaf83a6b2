use Rattle.std.proofs.Common.{Ok}
use Rattle.farm_answers.specs.FarmAnswers.{AnswersRun, ShowsEnd, StopsRun, TellsStop}
use Rattle.farm_answers.proofs.RunLaws.{comes-by}
use Rattle.farm_answers.proofs.farm_run.answer_run.Goals as goal
use Rattle.plan_reader.specs.TextsView.{texts_view}

pub returns-in-Ok-clause-end : goal.returns-in-Ok-clause-end
returns-in-Ok-clause-end g c =
    let texts = texts_view c.args.texts in
    comes-by (ShowsEnd c.in-Ok.accepted) (AnswersRun texts) (TellsStop c.in-Ok.accepted)
    (StopsRun texts) _ _ _ _ _
    (λ text status is. (Ok c.in-Ok.accepted, c.in-Ok.ensures.verdict, is))
    (λ line is. (c.in-Ok.accepted, c.in-Ok.ensures.verdict, is))
    c.run_accepted.ensures.end
