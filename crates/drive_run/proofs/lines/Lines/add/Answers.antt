use Rattle.std.proofs.Common.{ap, sym}
use Rattle.drive_run.specs.Questions.{question_text, wanted}
use Rattle.drive_run.proofs.LineLaws.{line_cut, line_sent}
use Rattle.drive_run.proofs.lines.Lines.add.Goals as goal

pub returns-in_err-send-clause-added : goal.returns-in_err-send-clause-added
returns-in_err-send-clause-added g c =
    let state = g.S.Sink.state in
    line_cut (state c.args.self.now.out.now) (state c.push.new.self.out.now)
    (state c.send.new.self.out.now) c.args.self.now.text.items c.push.new.self.text.items
    c.send.new.self.text.items (question_text c.args.known.now (wanted c.args.question))
    (ap (λ out. state out.now) c.push.ensures.out) (c.push.ensures.same c.if-push.false)
    c.send.ensures.written c.send.ensures.none_left (sym c.in_err-send.ensures.told)

pub returns-clause-added : goal.returns-clause-added
returns-clause-added g c =
    let state = g.S.Sink.state in
    line_sent (state c.args.self.now.out.now) (state c.push.new.self.out.now)
    (state c.send.new.self.out.now) c.args.self.now.text.items c.push.new.self.text.items
    c.send.new.self.text.items (question_text c.args.known.now (wanted c.args.question))
    (ap (λ out. state out.now) c.push.ensures.out) (c.push.ensures.same c.if-push.false)
    c.send.ensures.written c.send.ensures.none_left _ c.write_question.ensures.written
