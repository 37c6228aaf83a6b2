use Rattle.std.proofs.Common.{sym}
use Rattle.deb_text.specs.Lines.{lines_of}
use Rattle.drive_journal.specs.HeadText.{IsFresh, IsKnown}
use Rattle.drive_journal.proofs.Keeping.{misfit_refused, refused_by}
use Rattle.drive_journal.proofs.start.resume_text.Goals as goal

pub returns-in-Fresh-clause-refused : goal.returns-in-Fresh-clause-refused
returns-in-Fresh-clause-refused g c =
    refused_by c.args.head.now c.args.stamp.now c.args.text.now IsFresh
    (g.J.Sink.state c.args.journal.now) (g.J.Sink.state c.begin_anew.new.journal)
    c.begin_anew.result c.requires (sym c.in-Fresh.ensures) c.begin_anew.ensures.fault
    c.begin_anew.ensures.left

pub returns-in-Known-clause-refused : goal.returns-in-Known-clause-refused
returns-in-Known-clause-refused g c =
    refused_by c.args.head.now c.args.stamp.now c.args.text.now
    (IsKnown c.in-Known.run'.now (lines_of c.in-Known.entries.now))
    (g.J.Sink.state c.args.journal.now) (g.J.Sink.state c.go_on.new.journal) c.go_on.result
    c.requires (sym c.in-Known.ensures) c.go_on.ensures.fault c.go_on.ensures.left

pub returns-in-Misfit-clause-refused : goal.returns-in-Misfit-clause-refused
returns-in-Misfit-clause-refused g c =
    misfit_refused c.args.head.now c.args.stamp.now c.args.text.now c.in-Misfit.line
    (g.J.Sink.state c.args.journal.now) c.requires (sym c.in-Misfit.ensures)
