use Rattle.drive_journal.proofs.Keeping.{begun_left, fresh_left, whatever}
use Rattle.drive_journal.proofs.start.begin_anew.Goals as goal

pub returns-in_err-cut_to-clause-left : goal.returns-in_err-cut_to-clause-left
returns-in_err-cut_to-clause-left g c =
    whatever c.from_residual-in_err-cut_to.result
    (fresh_left c.args.head.now c.args.stamp.now c.args.text.now (g.J.Sink.state c.args.journal.now)
    (g.J.Sink.state c.cut_to.new.journal) c.requires c.in_err-cut_to.ensures.left)

pub returns-in_err-begin-clause-left : goal.returns-in_err-begin-clause-left
returns-in_err-begin-clause-left g c =
    whatever c.from_residual-in_err-begin.result
    (begun_left c.args.head.now c.args.stamp.now c.args.text.now (g.J.Sink.state c.args.journal.now)
    (g.J.Sink.state c.cut_to.new.journal) (g.J.Sink.state c.begin.new.journal)
    c.in_ok-cut_to.ensures.cut c.in_err-begin.ensures.left)
