use Rattle.deb_text.specs.Lines.{lines_of}
use Rattle.drive_answers.proofs.DriveLaws.{drive_by, line_quiet, none_told, resumed_misfit}
use Rattle.drive_answers.proofs.driven_answer.drive_kept.Goals as goal
use Rattle.drive_answers.specs.DriveAnswers.{IsMisfitOf, head_in}
use Rattle.drive_answers.specs.DriveLines.{no_run_line}
use Rattle.drive_run.specs.Driven.{IsMisfitIn}
use Rattle.plan_reader.specs.TextsView.{texts_view}

pub returns-in-Ok-clause-told : goal.returns-in-Ok-clause-told
returns-in-Ok-clause-told g c =
    let a = c.args.accepted in
    let run = c.in-Ok.run'.resumed in
    let kept = g.F.DriveSource.kept c.args.setting.now.source.now c.args.path.now in
    let head = head_in (texts_view c.args.setting.now.texts) in
    let is = c.in-Ok.ensures.run in
    drive_by a (IsMisfitIn a (lines_of run.entries.items)) (IsMisfitOf a head kept)
    (g.S.Sink.state c.args.out.now) (g.S.Sink.state c.answer_run.new.out)
    (g.E.Sink.state c.args.errors.now) (g.E.Sink.state c.answer_run.new.errors)
    c.answer_run.result
    (λ n misfit. resumed_misfit a head is.0 kept is.1 is.2 run n is.3 is.4 misfit)
    c.answer_run.ensures.told

pub returns-in-Err-clause-told : goal.returns-in-Err-clause-told
returns-in-Err-clause-told g c =
    none_told c.args.accepted (head_in (texts_view c.args.setting.now.texts))
    (g.F.DriveSource.kept c.args.setting.now.source.now c.args.path.now)
    (g.S.Sink.state c.args.out.now) (g.E.Sink.state c.args.errors.now)
    (g.E.Sink.state c.tell_no_run.new.errors) c.in-Err.none c.tell_no_run.result
    c.in-Err.ensures.none c.tell_no_run.ensures

pub returns-in-Err-clause-quiet : goal.returns-in-Err-clause-quiet
returns-in-Err-clause-quiet g c =
    line_quiet (no_run_line c.in-Err.none) (g.E.Sink.state c.args.errors.now)
    (g.E.Sink.state c.tell_no_run.new.errors) c.tell_no_run.result c.tell_no_run.ensures
