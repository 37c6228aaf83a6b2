use Rattle.std.proofs.Common.{length}
use Rattle.rest_texts.proofs.lists.has_word.Given as goal

abbrev pub decreases-loop-other : goal.decreases-loop-other
decreases-loop-other l = length l.rest
