use Rattle.std.proofs.Common.{length}
use Rattle.import_farm.proofs.RewritingLaws.{IsRenamedTo}
use Rattle.import_farm.proofs.renamed.push_renamed.Given as goal

abbrev pub invariant-loop-before : goal.invariant-loop-before
invariant-loop-before l = IsRenamedTo l.fn.row l.rest l.initial.text.items l.text.items

abbrev pub decreases-loop-before : goal.decreases-loop-before
decreases-loop-before l = length l.rest
