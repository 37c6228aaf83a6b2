use Rattle.std.proofs.Common.{length}
use Rattle.stage_answers.proofs.words.push_words.Given as goal

abbrev pub decreases-loop-word : goal.decreases-loop-word
decreases-loop-word l = length l.rest
