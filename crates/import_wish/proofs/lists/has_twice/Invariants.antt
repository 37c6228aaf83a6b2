use Rattle.std.proofs.Common.{◌≡◌, length}
use Rattle.deb_text.specs.Words.{words}
use Rattle.import_wish.specs.Lists.{has_twice}
use Rattle.import_wish.proofs.lists.has_twice.Given as goal

abbrev pub invariant-loop-word : goal.invariant-loop-word
invariant-loop-word l = has_twice (words l.rest) ≡ has_twice (words l.text)

abbrev pub decreases-loop-word : goal.decreases-loop-word
decreases-loop-word l = length l.rest
