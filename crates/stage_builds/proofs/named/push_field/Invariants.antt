use Rattle.std.proofs.Common.{◌≡◌, ◌++◌, drop, map}
use Rattle.stage_builds.specs.Profiles.{named_in_field}
use Rattle.stage_builds.proofs.named.push_field.Given as goal

abbrev pub invariant-loop-entry : goal.invariant-loop-entry
invariant-loop-entry l =
    map (λ word. word.now) l.words.items ++ named_in_field (drop l.entry-index l.entry-items)
    ≡ map (λ word. word.now) l.fn.words.items ++ named_in_field l.field
