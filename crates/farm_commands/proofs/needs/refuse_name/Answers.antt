use Rattle.farm_answers.specs.Answers.{IsJust}
use Rattle.farm_commands.specs.Pictures.{IsStatus}
use Rattle.farm_answers.proofs.AnswerLaws.{answered-by}
use Rattle.farm_commands.proofs.needs.refuse_name.Goals as goal

pub returns : goal.returns
returns g c =
    answered-by (IsJust c.deref.result.now 1) (IsStatus 1) _ _ _ (λ text status is. is.1)
    c.write_answer.ensures
