use Rattle.std.proofs.Common.{length}
use Rattle.rest_texts.proofs.lists.names_in.Given as goal

abbrev pub decreases-loop-word : goal.decreases-loop-word
decreases-loop-word l = length l.rest
