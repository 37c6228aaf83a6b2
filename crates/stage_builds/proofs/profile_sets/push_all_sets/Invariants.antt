use Rattle.std.proofs.Common.{◌≡◌, ◌++◌, map}
use Rattle.stage_builds.specs.Profiles.{sets_below}
use Rattle.stage_builds.proofs.profile_sets.push_all_sets.Given as goal

abbrev pub invariant-loop-size : goal.invariant-loop-size
invariant-loop-size l =
    map (λ set. map (λ word. word.now) set.items) l.sets.items
    ≡ map (λ set. map (λ word. word.now) set.items) l.fn.sets.items
    ++ sets_below l.size (map (λ word. word.now) l.words)
