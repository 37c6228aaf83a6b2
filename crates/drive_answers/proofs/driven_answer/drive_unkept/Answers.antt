use Rattle.std.proofs.Common.{Err, refl}
use Rattle.deb_text.specs.Lines.{lines_of}
use Rattle.drive_answers.proofs.DriveLaws.{drive_by, no_memory, no_misfit}
use Rattle.drive_answers.proofs.driven_answer.drive_unkept.Goals as goal
use Rattle.drive_answers.specs.DriveAnswers.{TellsStop}
use Rattle.drive_run.specs.Driven.{IsMisfitIn}
use Rattle.farm_answers.specs.FarmAnswers.{ShowsEnd}
use Rattle.farm_answers.specs.declared.fault.OutsideFault.TheVariants.{OutOfMemory}

pub returns-in-Ok-clause-told : goal.returns-in-Ok-clause-told
returns-in-Ok-clause-told g c =
    let a = c.args.accepted in
    let entries = c.in-Ok.run'.resumed.entries.items in
    drive_by a (IsMisfitIn a (lines_of entries)) (λ _. ⊥) (g.S.Sink.state c.args.out.now)
    (g.S.Sink.state c.answer_run.new.out) (g.E.Sink.state c.args.errors.now)
    (g.E.Sink.state c.answer_run.new.errors) c.answer_run.result
    (λ n. no_misfit a entries n c.in-Ok.ensures) c.answer_run.ensures.told

pub returns-in-Err-clause-told : goal.returns-in-Err-clause-told
returns-in-Err-clause-told g c =
    let out = g.S.Sink.state c.args.out.now in
    let errors = g.E.Sink.state c.args.errors.now in
    no_memory (ShowsEnd c.args.accepted) (TellsStop c.args.accepted (λ _. ⊥) out out) out errors
    errors (Err OutOfMemory) refl
