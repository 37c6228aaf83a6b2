use Rattle.std.proofs.Common.{◌≡◌, length}
use Rattle.deb_text.specs.Words.{words}
use Rattle.deb_profile.specs.Restriction.{is_among}
use Rattle.deb_profile.proofs.word_list.has_word.Given as goal

abbrev pub invariant-loop-word : goal.invariant-loop-word
invariant-loop-word l = is_among (words l.rest) l.wanted ≡ is_among (words l.text) l.wanted

abbrev pub decreases-loop-word : goal.decreases-loop-word
decreases-loop-word l = length l.rest
