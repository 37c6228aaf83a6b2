use Rattle.std.proofs.Common.{length}
use Rattle.cross_wish.proofs.wish_text.push_words.Given as goal

abbrev pub decreases-loop-word : goal.decreases-loop-word
decreases-loop-word l = length l.rest
