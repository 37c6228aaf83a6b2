use Rattle.std.proofs.Common.{Err, subst, sym}
use Rattle.farm_answers.specs.Answers.{ShowsVerdict}
use Rattle.farm_commands.specs.Pictures.{Draws, IsStatus}
use Rattle.farm_answers.proofs.AnswerLaws.{answered-by}
use Rattle.farm_commands.proofs.PictureLaws.{draws-other}
use Rattle.farm_commands.proofs.graph.draw_refused.Goals as goal

pub returns-in-Stuck : goal.returns-in-Stuck
returns-in-Stuck g c =
    answered-by (IsStatus 1) (Draws c.args.json (Err c.args.refusal)) _ _ _
    (λ text status is. subst (λ refusal. Draws c.args.json (Err refusal) text status)
    (sym c.in-Stuck.is) is)
    c.draw_stuck.ensures

pub returns-in_default : goal.returns-in_default
returns-in_default g c =
    answered-by (ShowsVerdict c.args.json (Err c.args.refusal))
    (Draws c.args.json (Err c.args.refusal)) _ _ _
    (λ text status is. draws-other c.args.json c.args.refusal text status
    (λ names same. c.in_default.not-Stuck names same) is)
    c.show_verdict.ensures
