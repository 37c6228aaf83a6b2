use Rattle.std.proofs.Common.{◌≡◌, ◌++◌, length}
use Rattle.deb_text.specs.Words.{spaced, words}
use Rattle.drive_protocol.proofs.paragraph.push_words.Given as goal

abbrev pub invariant-loop-word : goal.invariant-loop-word
invariant-loop-word l =
    l.text.items ++ spaced (words l.rest) ≡ l.fn.text.items ++ spaced (words l.fn.value)

abbrev pub decreases-loop-word : goal.decreases-loop-word
decreases-loop-word l = length l.rest
