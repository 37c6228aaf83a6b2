use Rattle.deb_text.specs.Bytes.{is_byte}
use Rattle.deb_text.proofs.FindLaws.{first-none, first-before, first-after}
use Rattle.deb_text.proofs.cuts.cut_at_first.Goals as goal

pub returns-in_err-at-clause-none : goal.returns-in_err-at-clause-none
returns-in_err-at-clause-none c =
    rw c.from_residual.ensures
    (first-none (is_byte c.args.byte) c.args.text.now c.in_err-at.ensures)

pub returns-clause-before : goal.returns-clause-before
returns-clause-before c =
    first-before (is_byte c.args.byte) c.args.text.now c.in_ok-at.at c.in_ok-at.ensures

pub returns-clause-after : goal.returns-clause-after
returns-clause-after c =
    first-after (is_byte c.args.byte) c.args.text.now c.in_ok-at.at c.in_ok-at.ensures
