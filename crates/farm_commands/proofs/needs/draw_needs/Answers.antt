use Rattle.farm_answers.specs.Answers.{IsJust}
use Rattle.farm_commands.specs.Pictures.{IsStatus}
use Rattle.farm_answers.proofs.AnswerLaws.{answered-by}
use Rattle.farm_commands.proofs.needs.draw_needs.Goals as goal

pub returns : goal.returns
returns g c =
    answered-by (IsJust c.deref.result.now 0) (IsStatus 0) _ _ _ (λ text status is. is.1)
    c.write_answer.ensures
