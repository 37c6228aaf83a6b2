use Rattle.std.proofs.Common.{sym, subst}
use Rattle.farm_answers.specs.Answers.{AnswersStepBy, ShowsRun, StepsBy, TakesTurns}
use Rattle.farm_answers.proofs.AnswerLaws.{answered-by}
use Rattle.farm_answers.proofs.answers.answer_step_by.Goals as goal
use Rattle.plan_reader.specs.TextsView.{texts_view}

pub returns : goal.returns
returns g c =
    let u = c.in-Ok.planned.universe in
    let p = c.in-Ok.planned.plan.lanes in
    answered-by (ShowsRun u p c.deref.result.now)
    (AnswersStepBy c.args.list.now (texts_view c.args.texts)) _ _ _
    (λ text status is. subst (λ planned. StepsBy c.args.list.now planned text status)
    (sym c.in-Ok.ensures.read)
    (subst (λ turns. TakesTurns (record { universe = u; plan = p }) turns text status)
    (sym c.in_ok-schedule.ensures.read)
    (subst (λ lanes. ShowsRun u p lanes text status) c.deref.ensures.value is)))
    c.answer_turns.ensures
