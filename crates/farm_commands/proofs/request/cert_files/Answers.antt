use Rattle.std.proofs.Common.{subst}
use Rattle.farm_answers.specs.CertAnswers.{AnswersCert}
use Rattle.farm_answers.specs.Files.{AreCalled, OnFiles, named}
use Rattle.farm_answers.specs.View.{texts_in_files}
use Rattle.farm_answers.proofs.CertLaws.{certified-by, unless-certified}
use Rattle.farm_commands.proofs.request.cert_files.Goals as goal
use Rattle.plan_reader.specs.TextsView.{texts_view}

pub returns-clause-answer : goal.returns-clause-answer
returns-clause-answer g c =
    unless-certified (AreCalled c.args.paths) _ _ _ _
    (certified-by (AnswersCert (texts_view c.texts.result))
    (OnFiles (named (g.F.Source.held c.args.source.now) (g.F.Source.given c.args.source.now))
    c.args.paths AnswersCert) _ _ _
    (λ text status is. (
      texts_in_files c.in_ok-files.files,
      c.in_ok-files.ensures.read,
      subst (λ texts. AnswersCert texts text status) c.texts.ensures is,
    ))
    c.answer_cert.ensures.answer)
