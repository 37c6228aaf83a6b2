use Rattle.std.proofs.Common.{◌≡◌, length}
use Rattle.row_cases.proofs.two_rows.row_of.Given as goal

abbrev pub invariant-loop-name : goal.invariant-loop-name
invariant-loop-name l = length l.row ≡ length l.words
