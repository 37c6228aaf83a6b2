use Rattle.std.proofs.Common.{arith, false, subst}
use Rattle.farm_answers.specs.Answers.{AnswersCheck}
use Rattle.farm_answers.specs.Files.{IsInputName}
use Rattle.farm_commands.specs.Requests.{OnInput}
use Rattle.farm_answers.proofs.AnswerLaws.{answered-by, unless-answered}
use Rattle.farm_commands.proofs.request.check_input.Goals as goal
use Rattle.plan_reader.specs.Input.{input_texts}
use Rattle.plan_reader.specs.TextsView.{texts_view}

pub returns : goal.returns
returns g c =
    unless-answered IsInputName _ _ _ _
    (answered-by (AnswersCheck false (texts_view c.texts_of.result))
    (OnInput (g.F.Source.given c.args.source.now)) _ _ _
    (λ text status is. (
      c.in_ok-input.input.items,
      (
        c.in_ok-input.ensures.bytes,
        omega (arith, c.in_ok-input.ensures.most, c.in_ok-input.input.ok.0),
      ),
      subst (λ bytes. AnswersCheck false (input_texts bytes) text status) c.deref.ensures.value
          (subst (λ texts. AnswersCheck false texts text status) c.texts_of.ensures is),
    ))
    c.answer_check.ensures)
