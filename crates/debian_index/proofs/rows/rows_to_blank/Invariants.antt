use Rattle.std.proofs.Common.{◌-◌, length}
use Rattle.debian_index.proofs.RowLaws.{AreRowsTo}
use Rattle.debian_index.proofs.rows.rows_to_blank.Given as goal

abbrev pub invariant-loop-size : goal.invariant-loop-size
invariant-loop-size l = AreRowsTo l.least l.text l.size l.lines

abbrev pub decreases-loop-size : goal.decreases-loop-size
decreases-loop-size l = length l.text - l.size
