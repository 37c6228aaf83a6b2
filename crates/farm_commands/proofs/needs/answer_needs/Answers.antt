use Rattle.std.proofs.Common.{Ok, Err, subst, ◌∙◌}
use Rattle.farm_answers.specs.Answers.{ShowsVerdict, planned_in}
use Rattle.farm_commands.specs.Needs.{AnswersNeeds, ShowsNeeds}
use Rattle.farm_answers.proofs.AnswerLaws.{answered-by}
use Rattle.farm_commands.proofs.needs.answer_needs.Goals as goal
use Rattle.plan_reader.specs.TextsView.{texts_view}
use Rattle.plan_verifier.specs.Accepted.{AcceptedPlan}
use Rattle.plan_verifier.specs.Verdict.{IsVerdict}

pub returns-in-Ok : goal.returns-in-Ok
returns-in-Ok g c =
    answered-by (ShowsNeeds c.args.shape.json c.args.shape.recipes.now (Ok c.deref.result.now))
    (AnswersNeeds c.args.shape.json c.args.shape.recipes.now (texts_view c.args.texts)) _ _ _
    (λ text status is. (
      Ok c.in-Ok.accepted,
      subst (IsVerdict (planned_in (texts_view c.args.texts))) c.in-Ok.is
          c.check-verdict.ensures.verdict,
      subst (λ (a : AcceptedPlan). ShowsNeeds c.args.shape.json c.args.shape.recipes.now (Ok a)
          text status) (c.deref.ensures ∙ c.new-accepted.ensures) is,
    ))
    c.answer_accepted.ensures

pub returns-in-Err : goal.returns-in-Err
returns-in-Err g c =
    answered-by (ShowsVerdict c.args.shape.json (Err c.in-Err.refusal))
    (AnswersNeeds c.args.shape.json c.args.shape.recipes.now (texts_view c.args.texts)) _ _ _
    (λ text status is. (
      Err c.in-Err.refusal,
      subst (IsVerdict (planned_in (texts_view c.args.texts))) c.in-Err.is
          c.check-verdict.ensures.verdict,
      is,
    ))
    c.show_verdict.ensures
