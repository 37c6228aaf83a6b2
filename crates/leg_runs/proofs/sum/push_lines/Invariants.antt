use Rattle.std.proofs.Common.{◌≡◌, ◌++◌, length}
use Rattle.deb_text.specs.Lines.{lines_of}
use Rattle.deb_text.specs.Words.{text_of}
use Rattle.drive_journal.specs.Entries.{unended}
use Rattle.leg_runs.proofs.sum.push_lines.Given as goal

abbrev pub invariant-loop-line : goal.invariant-loop-line
invariant-loop-line l =
    l.text.items ++ text_of (unended (lines_of l.rest))
    ≡ l.initial.text.items ++ text_of (unended (lines_of l.lines))

abbrev pub decreases-loop-line : goal.decreases-loop-line
decreases-loop-line l = length l.rest
