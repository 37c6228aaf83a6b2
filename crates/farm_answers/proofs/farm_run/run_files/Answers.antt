use Rattle.std.proofs.Common.{subst}
use Rattle.farm_answers.specs.FarmAnswers.{AnswersRun, StopsRun}
use Rattle.farm_answers.specs.Files.{AreCalled, AreFilesRead, OnFiles, named}
use Rattle.farm_answers.specs.View.{texts_in_files}
use Rattle.farm_answers.proofs.RunLaws.{comes-by, unless-ended}
use Rattle.farm_answers.proofs.farm_run.run_files.Goals as goal
use Rattle.plan_reader.specs.Input.{Texts}
use Rattle.plan_reader.specs.TextsView.{texts_view}

pub returns-clause-end : goal.returns-clause-end
returns-clause-end g c =
    let held = named (g.F.Source.held c.args.source.now)
    (g.F.Source.given c.args.source.now) in
    let texts = texts_in_files c.in_ok-files.files in
    unless-ended (AreCalled c.args.of.paths) _ _ _ _ _ _ _
    (comes-by (AnswersRun (texts_view c.texts.result)) (OnFiles held c.args.of.paths AnswersRun)
    (StopsRun (texts_view c.texts.result))
    (λ line. (t : Texts) × AreFilesRead held c.args.of.paths t × StopsRun t line)
    _ _ _ _ _
    (λ text status is. (
      texts,
      c.in_ok-files.ensures.read,
      subst (λ t. AnswersRun t text status) c.texts.ensures is,
    ))
    (λ line is. (
      texts,
      c.in_ok-files.ensures.read,
      subst (λ t. StopsRun t line) c.texts.ensures is,
    ))
    c.answer_run.ensures.end)
