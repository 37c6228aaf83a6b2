use Rattle.std.proofs.Common.{sym, subst}
use Rattle.farm_commands.specs.Pictures.{AnswersGraph, DrawsPlan, DrawsTexts}
use Rattle.farm_answers.proofs.AnswerLaws.{answered-by}
use Rattle.farm_commands.proofs.graph.answer_graph.Goals as goal
use Rattle.plan_reader.specs.TextsView.{texts_view}

pub returns-in-Ok : goal.returns-in-Ok
returns-in-Ok g c =
    answered-by
    (DrawsPlan c.args.json (record {
      universe = c.in-Ok.ready.planned.universe;
      plan = c.in-Ok.ready.planned.plan.lanes;
    }))
    (AnswersGraph c.args.json (texts_view c.args.texts)) _ _ _
    (λ text status is. subst (λ planned. DrawsTexts c.args.json planned text status)
    (sym c.in-Ok.ensures.read) is)
    c.draw_ready.ensures
