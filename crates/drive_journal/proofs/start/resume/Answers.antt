use Rattle.drive_journal.specs.declared.start.StoreFault.TheVariants.{Unread, Memory}
use Rattle.drive_journal.proofs.Keeping.{unchanged_refused}
use Rattle.drive_journal.proofs.start.resume.Goals as goal

pub returns-in-Err-clause-refused : goal.returns-in-Err-clause-refused
returns-in-Err-clause-refused g c =
    unchanged_refused c.args.head.now c.args.stamp.now (g.J.Sink.state c.args.journal.now)
    (g.J.Sink.state c.read.new.self) Memory c.read.ensures.same tt

pub returns-in-Err-2-clause-refused : goal.returns-in-Err-2-clause-refused
returns-in-Err-2-clause-refused g c =
    unchanged_refused c.args.head.now c.args.stamp.now (g.J.Sink.state c.args.journal.now)
    (g.J.Sink.state c.read.new.self) Unread c.read.ensures.same tt
