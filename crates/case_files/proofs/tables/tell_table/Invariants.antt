use Rattle.std.proofs.Common.{length}
use Rattle.case_files.proofs.tables.tell_table.Given as goal

abbrev pub decreases-loop-line : goal.decreases-loop-line
decreases-loop-line g l = length l.rest
