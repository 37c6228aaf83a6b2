use Rattle.std.proofs.Common.{◌≡◌, ◌++◌, length}
use Rattle.deb_text.specs.Common.{spaced, words}
use Rattle.cross_sources.proofs.list.push_words.Given as goal

abbrev pub invariant-loop-word : goal.invariant-loop-word
invariant-loop-word l =
    l.text.items ++ spaced (words l.rest) ≡ l.initial.text.items ++ spaced (words l.row)

abbrev pub decreases-loop-word : goal.decreases-loop-word
decreases-loop-word l = length l.rest
