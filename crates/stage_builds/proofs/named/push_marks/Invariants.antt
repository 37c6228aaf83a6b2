use Rattle.std.proofs.Common.{◌≡◌, ◌++◌, length, map}
use Rattle.stage_builds.specs.Profiles.{named_in_marks}
use Rattle.stage_builds.proofs.named.push_marks.Given as goal

abbrev pub invariant-loop-word : goal.invariant-loop-word
invariant-loop-word l =
    map (λ word. word.now) l.words.items ++ named_in_marks l.rest
    ≡ map (λ word. word.now) l.fn.words.items ++ named_in_marks l.list

abbrev pub decreases-loop-word : goal.decreases-loop-word
decreases-loop-word l = length l.rest
