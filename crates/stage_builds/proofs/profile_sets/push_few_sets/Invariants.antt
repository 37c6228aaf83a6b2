use Rattle.std.proofs.Common.{◌≡◌, ◌++◌, ◌∷◌, [], drop, map}
use Rattle.stage_builds.proofs.profile_sets.push_few_sets.Given as goal

abbrev pub invariant-loop-word : goal.invariant-loop-word
invariant-loop-word l =
    map (λ set. map (λ word. word.now) set.items) l.sets.items
    ++ map (λ word. word.now ∷ []) (drop l.word-index l.words)
    ≡ map (λ set. map (λ word. word.now) set.items) l.initial.sets.items
    ++ map (λ word. word.now ∷ []) l.words
