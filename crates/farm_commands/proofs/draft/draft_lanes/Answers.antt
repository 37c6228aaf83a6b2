use Rattle.std.proofs.Common.{subst}
use Rattle.draft_plan.specs.Drafted.{AnswersNumber}
use Rattle.farm_commands.specs.Drafts.{AnswersLanes, TellsDraft}
use Rattle.farm_answers.specs.Files.{AreFarmCalled, OnFarmFiles, named}
use Rattle.farm_commands.specs.View.{farm_in_files}
use Rattle.farm_answers.proofs.AnswerLaws.{answered-by, unless-answered}
use Rattle.farm_universe.specs.UniverseText.{universe_of}
use Rattle.farm_commands.proofs.draft.draft_lanes.Goals as goal

pub returns-clause-answer : goal.returns-clause-answer
returns-clause-answer g c =
    let of = c.args.of in
    let drafted = c.in_ok-drafted.drafted in
    unless-answered (AreFarmCalled of.paths) _ _ _ _
    (answered-by (TellsDraft drafted)
    (OnFarmFiles (named (g.F.Source.held c.args.source.now) (g.F.Source.given c.args.source.now))
    of.paths (AnswersLanes of.lanes of.partial)) _ _ _
    (λ text status is. (
      farm_in_files c.in_ok-files.files,
      c.in_ok-files.ensures.read,
      (
        drafted,
        subst (λ texts. AnswersNumber texts of.lanes of.partial
            (universe_of texts.packages texts.sources texts.farm) drafted)
            c.texts.ensures c.in_ok-drafted.ensures,
        is,
      ),
    ))
    c.tell_drafted.ensures.answer)
