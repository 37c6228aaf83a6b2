use Rattle.std.proofs.Common.{◌≡◌, length}
use Rattle.deb_text.specs.Words.{words}
use Rattle.import_wish.specs.Lists.{is_among}
use Rattle.import_wish.proofs.lists.has_word.Given as goal

abbrev pub invariant-loop-word : goal.invariant-loop-word
invariant-loop-word l = is_among (words l.rest) l.name ≡ is_among (words l.text) l.name

abbrev pub decreases-loop-word : goal.decreases-loop-word
decreases-loop-word l = length l.rest
