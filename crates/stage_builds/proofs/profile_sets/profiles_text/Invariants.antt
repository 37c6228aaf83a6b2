use Rattle.std.proofs.Common.{◌≡◌, ◌++◌, drop, map}
use Rattle.deb_text.specs.Words.{spaced}
use Rattle.stage_builds.proofs.profile_sets.profiles_text.Given as goal

abbrev pub invariant-loop-word : goal.invariant-loop-word
invariant-loop-word l =
    l.text.items ++ spaced (map (λ word. word.now) (drop l.word-index l.more))
    ≡ l.initial.text.items ++ spaced (map (λ word. word.now) l.more)
