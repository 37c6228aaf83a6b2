use Rattle.deb_text.specs.Bytes.{is_byte}
use Rattle.deb_text.proofs.FindLaws.{last-none, last-before, last-after}
use Rattle.deb_text.proofs.cuts.cut_at_last.Goals as goal

pub returns-in_err-at-clause-none : goal.returns-in_err-at-clause-none
returns-in_err-at-clause-none c =
    rw c.from_residual.ensures (last-none (is_byte c.args.byte) c.args.text.now c.in_err-at.ensures)

pub returns-clause-before : goal.returns-clause-before
returns-clause-before c =
    last-before (is_byte c.args.byte) c.args.text.now c.in_ok-at.at c.in_ok-at.ensures

pub returns-clause-after : goal.returns-clause-after
returns-clause-after c =
    last-after (is_byte c.args.byte) c.args.text.now c.in_ok-at.at c.in_ok-at.ensures
