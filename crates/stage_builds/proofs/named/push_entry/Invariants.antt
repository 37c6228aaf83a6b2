use Rattle.std.proofs.Common.{◌≡◌, ◌++◌, drop, map}
use Rattle.stage_builds.specs.Profiles.{named_in_entry}
use Rattle.stage_builds.proofs.named.push_entry.Given as goal

abbrev pub invariant-loop-atom : goal.invariant-loop-atom
invariant-loop-atom l =
    map (λ word. word.now) l.words.items ++ named_in_entry (drop l.atom-index l.atom-items)
    ≡ map (λ word. word.now) l.fn.words.items ++ named_in_entry l.entry
