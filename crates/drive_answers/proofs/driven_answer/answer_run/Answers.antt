use Rattle.std.proofs.Common.{◌≡◌, Ok, Err, IfOk, IfErr, sym, subst, ◌∙◌}
use Rattle.deb_text.specs.Lines.{lines_of}
use Rattle.drive_run.specs.Driven.{IsMisfitIn, IsNotBegun, IsRan}
use Rattle.drive_run.specs.declared.driven.Driven.{Driven}
use Rattle.drive_answers.proofs.DriveLaws.{ran_told, start_told}
use Rattle.drive_answers.proofs.driven_answer.answer_run.Goals as goal

pub returns-in-Ok-clause-told : goal.returns-in-Ok-clause-told
returns-in-Ok-clause-told g c =
    let a = c.args.accepted in
    let came : c.carry_out.result ≡ Ok c.in-Ok.driven =
    sym c.new-driven.ensures ∙ (sym c.deref.ensures ∙ c.in-Ok.is) in
    let ran : IsRan a c.in-Ok.driven.ran =
    subst (λ r. IfOk r (λ (d : Driven). IsRan a d.ran)) came c.carry_out.ensures.ran in
    ran_told a (IsMisfitIn a (lines_of c.args.run.resumed.entries.items))
    (g.S.Sink.state c.args.out.now) (g.S.Sink.state c.answer_driven.new.out)
    (g.E.Sink.state c.args.errors.now) (g.E.Sink.state c.answer_driven.new.errors)
    c.answer_driven.result (c.answer_driven.ensures.told a ran)

pub returns-in-Err-clause-told : goal.returns-in-Err-clause-told
returns-in-Err-clause-told g c =
    let a = c.args.accepted in
    let entries = c.args.run.resumed.entries.items in
    let old = g.S.Sink.state c.args.out.now in
    let new = g.S.Sink.state c.carry_out.new.out in
    let came : c.carry_out.result ≡ Err c.in-Err.fault =
    sym c.new-driven.ensures ∙ (sym c.deref.ensures ∙ c.in-Err.is) in
    start_told a entries old new (g.E.Sink.state c.args.errors.now)
    (g.E.Sink.state c.tell_start.new.errors) c.in-Err.fault c.tell_start.result
    (subst (λ r. IfErr r (IsNotBegun a entries old new)) came c.carry_out.ensures.fault)
    c.tell_start.ensures
