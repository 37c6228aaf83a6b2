use Rattle.std.proofs.Common.{Ok, Err, refl, subst, ◌∙◌}
use Rattle.farm_answers.specs.Answers.{farm_in}
use Rattle.farm_commands.specs.Pictures.{Draws, DrawsPlan, IsStatus}
use Rattle.farm_answers.proofs.AnswerLaws.{answered-by}
use Rattle.farm_commands.proofs.graph.draw_examined.Goals as goal
use Rattle.plan_verifier.specs.Examined.{ExaminedPlan, IsGrounds, accepted_with}
use Rattle.plan_verifier.specs.Verdict.{IsVerdictOn}

pub returns-in-Ok : goal.returns-in-Ok
returns-in-Ok g c =
    answered-by (IsStatus 0) (DrawsPlan c.args.json (farm_in c.args.examined)) _ _ _
    (λ text status is. (
      Ok (accepted_with c.args.examined c.in-Ok.grounds.order.items c.in-Ok.grounds.costs.items),
      (
        refl,
        refl,
        subst (λ (e : ExaminedPlan). IsGrounds e c.in-Ok.grounds)
            (c.deref.ensures ∙ c.new-examined.ensures) c.in-Ok.ensures.accepted,
      ),
      is,
    ))
    c.draw_accepted.ensures

pub returns-in-Err : goal.returns-in-Err
returns-in-Err g c =
    answered-by (Draws c.args.json (Err c.in-Err.refusal))
    (DrawsPlan c.args.json (farm_in c.args.examined)) _ _ _
    (λ text status is. (
      Err c.in-Err.refusal,
      subst (λ (e : ExaminedPlan). IsVerdictOn e.universe e.plan (Err c.in-Err.refusal))
          (c.deref.ensures ∙ c.new-examined.ensures) c.in-Err.ensures.refused,
      is,
    ))
    c.draw_refused.ensures
