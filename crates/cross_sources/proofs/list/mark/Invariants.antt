use Rattle.std.proofs.Common.{◌≡◌, length}
use Rattle.deb_text.specs.Words.{words}
use Rattle.debian_index.specs.Given.{mark_in}
use Rattle.cross_sources.proofs.list.mark.Given as goal

abbrev pub invariant-loop-word : goal.invariant-loop-word
invariant-loop-word l = mark_in l.key (words l.rest) ≡ mark_in l.key (words l.row)

abbrev pub decreases-loop-word : goal.decreases-loop-word
decreases-loop-word l = length l.rest
