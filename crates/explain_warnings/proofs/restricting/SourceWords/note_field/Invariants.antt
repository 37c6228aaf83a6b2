use Rattle.std.proofs.Common.{length}
use Rattle.explain_warnings.proofs.restricting.SourceWords.note_field.Given as goal

abbrev pub decreases-loop-entry : goal.decreases-loop-entry
decreases-loop-entry l = length l.entries
