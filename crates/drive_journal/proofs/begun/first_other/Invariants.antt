use Rattle.std.proofs.Common.{◌≡◌, ◌+◌, ◌≤◌, length}
use Rattle.deb_text.specs.Lines.{lines_of}
use Rattle.drive_journal.specs.HeadText.{first_other}
use Rattle.drive_journal.proofs.begun.first_other.Given as goal

abbrev pub invariant-loop-line : goal.invariant-loop-line
invariant-loop-line l =
    (first_other l.number (lines_of l.text) (lines_of l.head)
    ≡ first_other 1 (lines_of l.fn.text) (lines_of l.fn.head))
    × (l.number + length l.text ≤ length l.fn.text + 1)

abbrev pub decreases-loop-line : goal.decreases-loop-line
decreases-loop-line l = length l.text
