use Rattle.std.proofs.Common.{sym, subst}
use Rattle.farm_answers.specs.Answers.{AnswersStep, ShowsRun, Steps}
use Rattle.farm_answers.proofs.AnswerLaws.{answered-by}
use Rattle.farm_answers.proofs.answers.answer_step.Goals as goal
use Rattle.plan_reader.specs.TextsView.{texts_view}

pub returns : goal.returns
returns g c =
    answered-by
    (ShowsRun c.in-Ok.planned.universe c.in-Ok.planned.plan.lanes c.args.schedule.now)
    (AnswersStep c.args.schedule.now (texts_view c.args.texts)) _ _ _
    (λ text status is. subst (λ planned. Steps c.args.schedule.now planned text status)
    (sym c.in-Ok.ensures.read) is)
    c.answer_turns.ensures
