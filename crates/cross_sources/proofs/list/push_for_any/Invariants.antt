use Rattle.std.proofs.Common.{◌≡◌, ◌++◌, length, map}
use Rattle.deb_text.specs.Common.{spaced, words}
use Rattle.cross_sources.specs.List.{for_any}
use Rattle.cross_sources.proofs.list.push_for_any.Given as goal

abbrev pub invariant-loop-word : goal.invariant-loop-word
invariant-loop-word l =
    l.text.items ++ spaced (map for_any (words l.rest)) ≡ l.initial.text.items ++ spaced (map for_any (words l.row))

abbrev pub decreases-loop-word : goal.decreases-loop-word
decreases-loop-word l = length l.rest
