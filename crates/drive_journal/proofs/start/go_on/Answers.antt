use Rattle.std.proofs.Common.{[], inl, refl, subst, length}
use Rattle.deb_text.specs.Lines.{lines_of}
use Rattle.drive_journal.specs.Resuming.{IsLeft}
use Rattle.drive_journal.proofs.Keeping.{known_left, whatever}
use Rattle.drive_journal.proofs.start.go_on.Goals as goal

pub returns-in_err-from_slice-clause-left : goal.returns-in_err-from_slice-clause-left
returns-in_err-from_slice-clause-left g c =
    let old = g.J.Sink.state c.args.journal.now in
    whatever c.from_residual.result
    (known_left [] [] c.args.text.now c.args.run.now (lines_of c.args.entries.now) old old c.requires
    (inl refl))

pub returns-in_err-from_slice-2-clause-left : goal.returns-in_err-from_slice-2-clause-left
returns-in_err-from_slice-2-clause-left g c =
    let old = g.J.Sink.state c.args.journal.now in
    whatever c.from_residual-in_err-from_slice-2.result
    (known_left [] [] c.args.text.now c.args.run.now (lines_of c.args.entries.now) old old c.requires
    (inl refl))

pub returns-in_err-cut_to-clause-left : goal.returns-in_err-cut_to-clause-left
returns-in_err-cut_to-clause-left g c =
    let old = g.J.Sink.state c.args.journal.now in
    let new = g.J.Sink.state c.cut_to.new.journal in
    whatever c.from_residual-in_err-cut_to.result
    (known_left [] [] c.args.text.now c.args.run.now (lines_of c.args.entries.now) old new c.requires
    (subst (λ part. IsLeft old new (length part)) c.whole_part.ensures.whole
    c.in_err-cut_to.ensures.left))
