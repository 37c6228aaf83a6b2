use Rattle.std.proofs.Common.{ℕ, List, subst}
use Rattle.std.specs.Option.{option_map}
use Rattle.drive_answers.proofs.DriveLaws.{driven_by, unless_driven}
use Rattle.drive_answers.proofs.driven_answer.drive_files.Goals as goal
use Rattle.drive_answers.specs.DriveAnswers.{Finishes, Refuses, Stops, kept_in}
use Rattle.farm_answers.specs.Files.{AreCalled, AreFilesRead, OnFiles, named}
use Rattle.farm_answers.specs.View.{texts_in_files}
use Rattle.plan_reader.specs.Input.{Texts}
use Rattle.plan_reader.specs.TextsView.{texts_view}

pub returns-clause-told : goal.returns-clause-told
returns-clause-told g c =
    let held = named (g.F.Source.held c.args.source.now) (g.F.Source.given c.args.source.now) in
    let paths = c.args.of.paths in
    let kept = kept_in (g.F.DriveSource.kept c.args.source.now)
    (option_map (λ name. name.now) c.args.of.journal) in
    let texts = texts_in_files c.in_ok-files.files in
    let read = c.in_ok-files.ensures.read in
    let of = texts_view c.texts.result in
    let old = g.S.Sink.state c.args.out.now in
    let new = g.S.Sink.state c.answer_drive.new.out in
    let before = g.E.Sink.state c.args.errors.now in
    let after = g.E.Sink.state c.answer_drive.new.errors in
    unless_driven (AreCalled paths) (OnFiles held paths Refuses) (OnFiles held paths Finishes)
    (λ line. (t : Texts) × AreFilesRead held paths t × Stops t kept old new line) old new before
    after c.answer_drive.result
    (driven_by (Refuses of) (OnFiles held paths Refuses) (Finishes of)
    (OnFiles held paths Finishes) (Stops of kept old new)
    (λ line. (t : Texts) × AreFilesRead held paths t × Stops t kept old new line) old new before
    after c.answer_drive.result
    (λ text status is. (texts, read, subst (λ t. Refuses t text status) c.texts.ensures is))
    (λ text status is. (texts, read, subst (λ t. Finishes t text status) c.texts.ensures is))
    (λ line is. (texts, read, subst (λ t. Stops t kept old new line) c.texts.ensures is))
    c.answer_drive.ensures.told)
