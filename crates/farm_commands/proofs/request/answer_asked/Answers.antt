use Rattle.std.proofs.Common.{◌≡◌, subst, sym}
use Rattle.farm_answers.specs.Answers.{AnswersStep, IsAnswered, UnlessUnread}
use Rattle.farm_answers.specs.Files.{AreCalled, OnFiles, named}
use Rattle.farm_commands.specs.Needs.{AnswersNeeds}
use Rattle.farm_commands.specs.Requests.{IsRequestMet}
use Rattle.farm_commands.proofs.request.answer_asked.Goals as goal

pub returns-in-Step-clause-answer : goal.returns-in-Step-clause-answer
returns-in-Step-clause-answer g c =
    let held = g.F.Source.held c.args.source.now in
    let given = g.F.Source.given c.args.source.now in
    let old = g.S.Sink.state c.args.out.now in
    let new = g.S.Sink.state c.step_files.new.out in
    subst (λ request. IsRequestMet held given request old new c.step_files.result)
    (sym c.in-Step.is)
    (subst (λ lanes. UnlessUnread (AreCalled c.in-Step.paths) (new ≡ old)
    (IsAnswered (OnFiles (named held given) c.in-Step.paths (AnswersStep lanes)) old new
    c.step_files.result) c.step_files.result) c.deref.ensures.value c.step_files.ensures)

pub returns-in-Needs-clause-answer : goal.returns-in-Needs-clause-answer
returns-in-Needs-clause-answer g c =
    let held = g.F.Source.held c.args.source.now in
    let given = g.F.Source.given c.args.source.now in
    let old = g.S.Sink.state c.args.out.now in
    let new = g.S.Sink.state c.needs_files.new.out in
    subst (λ request. IsRequestMet held given request old new c.needs_files.result)
    (sym c.in-Needs.is)
    (subst (λ names. UnlessUnread (AreCalled c.in-Needs.paths) (new ≡ old)
    (IsAnswered (OnFiles (named held given) c.in-Needs.paths
    (AnswersNeeds c.in-Needs.json names)) old new
    c.needs_files.result) c.needs_files.result) c.deref-in-Needs.ensures.value c.needs_files.ensures)
