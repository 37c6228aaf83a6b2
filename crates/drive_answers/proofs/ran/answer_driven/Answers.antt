use Rattle.drive_answers.proofs.RanLaws.{lane_or_fault}
use Rattle.drive_answers.proofs.ran.answer_driven.Goals as goal

pub returns-in-None-clause-told : goal.returns-in-None-clause-told
returns-in-None-clause-told g c a is =
    lane_or_fault a (g.S.Sink.state c.answer_ran.new.out) (g.E.Sink.state c.args.errors.now)
    (g.E.Sink.state c.answer_ran.new.errors) c.answer_ran.result (c.answer_ran.ensures.told a is)
