use Rattle.std.proofs.Common.{◌≡◌, length}
use Rattle.deb_text.specs.Lines.{lines_of}
use Rattle.import_closure.specs.Files.{total_from}
use Rattle.import_closure.proofs.files.files_size.Given as goal

abbrev pub invariant-loop-row : goal.invariant-loop-row
invariant-loop-row l = total_from l.total (lines_of l.rest) ≡ total_from 0 (lines_of l.rows)

abbrev pub decreases-loop-row : goal.decreases-loop-row
decreases-loop-row l = length l.rest
