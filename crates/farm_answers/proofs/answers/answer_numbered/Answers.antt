use Rattle.std.proofs.Common.{sym, subst}
use Rattle.farm_answers.specs.Answers.{AnswersNumbered, IsJust, ListsLines}
use Rattle.farm_answers.proofs.AnswerLaws.{answered-by}
use Rattle.farm_answers.proofs.answers.answer_numbered.Goals as goal
use Rattle.plan_reader.specs.TextsView.{texts_view}

pub returns : goal.returns
returns g c =
    answered-by (IsJust c.deref.result.now 0) (AnswersNumbered (texts_view c.args.texts)) _ _ _
    (λ text status is. subst (λ planned. ListsLines c.args.texts.plan.now planned text status)
    (sym c.in-Ok.ensures.read)
    (rw (is.0, c.deref.ensures.value, ← c.in-Ok.ensures.lines) c.in_ok-text.ensures, is.1))
    c.write_answer.ensures
