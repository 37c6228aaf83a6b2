use Rattle.std.proofs.Common.{◌≡◌, length}
use Rattle.deb_text.specs.Words.{words}
use Rattle.import_wish.specs.Targets.{have_common}
use Rattle.import_wish.proofs.targets.have_common.Given as goal

abbrev pub invariant-loop-word : goal.invariant-loop-word
invariant-loop-word l =
    have_common l.profiles (words l.rest) ≡ have_common l.profiles (words l.text)

abbrev pub decreases-loop-word : goal.decreases-loop-word
decreases-loop-word l = length l.rest
