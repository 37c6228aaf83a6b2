use Rattle.std.proofs.Common.{subst}
use Rattle.draft_plan.specs.Drafted.{AnswersSketch}
use Rattle.farm_answers.specs.Answers.{planned_in}
use Rattle.farm_commands.specs.Drafts.{AnswersDraft, TellsDraft}
use Rattle.farm_answers.specs.Files.{AreCalled, OnFiles, named}
use Rattle.farm_answers.specs.View.{texts_in_files}
use Rattle.farm_answers.proofs.AnswerLaws.{answered-by, unless-answered}
use Rattle.farm_commands.proofs.draft.draft_files.Goals as goal

pub returns-clause-answer : goal.returns-clause-answer
returns-clause-answer g c =
    let of = c.args.of in
    let drafted = c.in_ok-drafted.drafted in
    unless-answered (AreCalled of.paths) _ _ _ _
    (answered-by (TellsDraft drafted)
    (OnFiles (named (g.F.Source.held c.args.source.now) (g.F.Source.given c.args.source.now))
    of.paths (AnswersDraft of.rest of.partial)) _ _ _
    (λ text status is. (
      texts_in_files c.in_ok-files.files,
      c.in_ok-files.ensures.read,
      (
        drafted,
        subst (λ texts. AnswersSketch texts of.rest of.partial (planned_in texts) drafted)
            c.texts.ensures c.in_ok-drafted.ensures,
        is,
      ),
    ))
    c.tell_drafted.ensures.answer)
