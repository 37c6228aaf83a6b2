use Rattle.std.proofs.Common.{◌≡◌, ◌++◌, drop, map}
use Rattle.std.specs.List.{flat_map}
use Rattle.stage_builds.specs.Profiles.{named_in_field}
use Rattle.stage_builds.proofs.named.push_fields.Given as goal

abbrev pub invariant-loop-field : goal.invariant-loop-field
invariant-loop-field l =
    map (λ word. word.now) l.words.items ++ flat_map named_in_field (drop l.field-index l.fields)
    ≡ map (λ word. word.now) l.fn.words.items ++ flat_map named_in_field l.fields
