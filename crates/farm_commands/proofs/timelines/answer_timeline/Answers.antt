use Rattle.std.proofs.Common.{Ok, Err, subst}
use Rattle.farm_answers.specs.Answers.{ShowsVerdict, planned_in}
use Rattle.farm_commands.specs.Pictures.{AnswersTimeline, IsStatus, is_json}
use Rattle.farm_answers.proofs.AnswerLaws.{answered-by}
use Rattle.farm_commands.proofs.timelines.answer_timeline.Goals as goal
use Rattle.plan_reader.specs.TextsView.{texts_view}
use Rattle.plan_verifier.specs.Verdict.{IsVerdict}

pub returns-in-Ok : goal.returns-in-Ok
returns-in-Ok g c =
    answered-by (IsStatus 0)
    (AnswersTimeline (is_json c.args.shape.form) (texts_view c.args.texts)) _ _ _
    (λ text status is. (
      Ok c.in-Ok.accepted,
      subst (IsVerdict (planned_in (texts_view c.args.texts))) c.in-Ok.is
          c.check-verdict.ensures.verdict,
      is,
    ))
    c.answer_accepted.ensures

pub returns-in-Err : goal.returns-in-Err
returns-in-Err g c =
    answered-by (ShowsVerdict (is_json c.args.shape.form) (Err c.in-Err.refusal))
    (AnswersTimeline (is_json c.args.shape.form) (texts_view c.args.texts)) _ _ _
    (λ text status is. (
      Err c.in-Err.refusal,
      subst (IsVerdict (planned_in (texts_view c.args.texts))) c.in-Err.is
          c.check-verdict.ensures.verdict,
      is,
    ))
    (rw c.is_json.ensures at c.show_verdict.ensures)
