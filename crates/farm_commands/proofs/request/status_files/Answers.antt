use Rattle.std.proofs.Common.{subst}
use Rattle.drive_answers.specs.Statuses.{AnswersStatus}
use Rattle.farm_answers.specs.Files.{AreCalledWith, named, OnFilesAndOne}
use Rattle.farm_answers.specs.View.{texts_in_files}
use Rattle.farm_answers.proofs.AnswerLaws.{answered-by, unless-answered}
use Rattle.farm_commands.proofs.request.status_files.Goals as goal
use Rattle.plan_reader.specs.TextsView.{texts_view}

pub returns-clause-answer : goal.returns-clause-answer
returns-clause-answer g c =
    unless-answered (AreCalledWith c.args.of.paths c.args.of.journal.now) _ _ _ _
    (answered-by (AnswersStatus c.args.of.json c.deref.result.now (texts_view c.texts.result))
    (OnFilesAndOne (named (g.F.Source.held c.args.source.now) (g.F.Source.given c.args.source.now))
    c.args.of.paths c.args.of.journal.now
    (AnswersStatus c.args.of.json)) _ _ _
    (λ text status is. (
      c.in_ok-read.read.items,
      c.in_ok-read.ensures.bytes,
      (
        texts_in_files c.in_ok-files.files,
        c.in_ok-files.ensures.read,
        subst (λ bytes. AnswersStatus c.args.of.json bytes (texts_in_files c.in_ok-files.files) text status)
            c.deref.ensures.value
            (subst (λ texts. AnswersStatus c.args.of.json c.deref.result.now texts text status)
            c.texts.ensures is),
      ),
    ))
    c.answer_status.ensures.told)
