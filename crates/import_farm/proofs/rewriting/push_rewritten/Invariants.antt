use Rattle.std.proofs.Common.{length}
use Rattle.deb_text.specs.Lines.{lines_of}
use Rattle.import_farm.proofs.RewritingLaws.{AreRowsTo}
use Rattle.import_farm.proofs.rewriting.push_rewritten.Given as goal

abbrev pub invariant-loop-row : goal.invariant-loop-row
invariant-loop-row l =
    AreRowsTo (lines_of l.fn.block) l.field (lines_of l.rest) l.initial.text.items l.text.items

abbrev pub decreases-loop-row : goal.decreases-loop-row
decreases-loop-row l = length l.rest
