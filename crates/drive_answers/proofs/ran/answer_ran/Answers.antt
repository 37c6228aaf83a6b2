use Rattle.drive_answers.proofs.RanLaws.{end_told}
use Rattle.drive_answers.proofs.ran.answer_ran.Goals as goal

pub returns-in-Ok-clause-told : goal.returns-in-Ok-clause-told
returns-in-Ok-clause-told g c a is =
    end_told a c.args.ran.now c.in-Ok.run' (g.S.Sink.state c.args.out.now)
    (g.S.Sink.state c.answer_end.new.out) (g.E.Sink.state c.args.errors.now)
    (g.E.Sink.state c.args.errors.now) c.answer_end.result c.in-Ok.is is c.answer_end.ensures
