use Rattle.std.proofs.Common.{subst}
use Rattle.farm_commands.specs.Needs.{AnswersNeeds}
use Rattle.farm_answers.specs.Files.{AreCalled, named, OnFiles}
use Rattle.farm_answers.specs.View.{texts_in_files}
use Rattle.farm_answers.proofs.AnswerLaws.{answered-by, unless-answered}
use Rattle.farm_commands.proofs.request.needs_files.Goals as goal
use Rattle.plan_reader.specs.TextsView.{texts_view}

pub returns : goal.returns
returns g c =
    unless-answered (AreCalled c.args.paths) _ _ _ _
    (answered-by
    (AnswersNeeds c.args.shape.json c.args.shape.recipes.now (texts_view c.texts.result))
    (OnFiles (named (g.F.Source.held c.args.source.now) (g.F.Source.given c.args.source.now))
    c.args.paths (AnswersNeeds c.args.shape.json c.args.shape.recipes.now)) _ _ _
    (λ text status is. (
      texts_in_files c.in_ok-files.files,
      c.in_ok-files.ensures.read,
      subst (λ texts. AnswersNeeds c.args.shape.json c.args.shape.recipes.now texts text status)
          c.texts.ensures is,
    ))
    c.answer_needs.ensures)
