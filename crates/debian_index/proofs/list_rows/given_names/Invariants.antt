use Rattle.std.proofs.Common.{◌≡◌, ◌++◌, length, map}
use Rattle.deb_text.specs.Lines.{lines_of}
use Rattle.debian_index.specs.Given.{names_given}
use Rattle.debian_index.specs.View.{row_for}
use Rattle.debian_index.proofs.list_rows.given_names.Given as goal

abbrev pub invariant-loop-row : goal.invariant-loop-row
invariant-loop-row l =
    map (λ name. name.now) l.names.items ++ names_given (row_for l.build) (lines_of l.rest)
    ≡ names_given (row_for l.build) (lines_of l.list)

abbrev pub decreases-loop-row : goal.decreases-loop-row
decreases-loop-row l = length l.rest
