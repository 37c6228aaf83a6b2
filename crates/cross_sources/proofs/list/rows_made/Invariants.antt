use Rattle.std.proofs.Common.{◌≡◌, ◌++◌, length}
use Rattle.deb_text.specs.Common.{lines_of}
use Rattle.cross_sources.specs.List.{rows_made}
use Rattle.cross_sources.specs.Relations.{way_of}
use Rattle.cross_sources.proofs.list.rows_made.Given as goal

abbrev pub invariant-loop-row : goal.invariant-loop-row
invariant-loop-row l =
    l.text.items ++ rows_made (way_of l.of) l.side (lines_of l.rest)
    ≡ rows_made (way_of l.of) l.side (lines_of l.value)

abbrev pub decreases-loop-row : goal.decreases-loop-row
decreases-loop-row l = length l.rest
