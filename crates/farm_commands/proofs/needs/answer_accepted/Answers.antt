use Rattle.std.proofs.Common.{Ok, subst, sym, ◌∙◌}
use Rattle.std.specs.Option.{is_none}
use Rattle.farm_answers.specs.Answers.{status_of}
use Rattle.farm_commands.specs.Needs.{ShowsNeeds}
use Rattle.farm_commands.specs.Pictures.{IsStatus}
use Rattle.farm_answers.proofs.AnswerLaws.{answered-by}
use Rattle.farm_commands.proofs.needs.answer_accepted.Goals as goal

pub returns-in-Some : goal.returns-in-Some
returns-in-Some g c =
    answered-by (IsStatus 1)
    (ShowsNeeds c.args.shape.json c.args.shape.recipes.now (Ok c.args.accepted.now)) _ _ _
    (λ text status is. subst (λ found. IsStatus (status_of (is_none found)) text status)
    (sym c.in-Some.is ∙ c.unbuilt.ensures) is)
    c.refuse_name.ensures

pub returns-in-None : goal.returns-in-None
returns-in-None g c =
    answered-by (IsStatus 0)
    (ShowsNeeds c.args.shape.json c.args.shape.recipes.now (Ok c.args.accepted.now)) _ _ _
    (λ text status is. subst (λ found. IsStatus (status_of (is_none found)) text status)
    (sym c.in-None.is ∙ c.unbuilt.ensures) is)
    c.draw_needs.ensures
