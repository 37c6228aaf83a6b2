use Rattle.std.proofs.Common.{◌≡◌, ◌++◌, drop}
use Rattle.cross_sources.specs.Relations.{without_brackets}
use Rattle.cross_sources.proofs.relations.without_brackets.Given as goal

abbrev pub invariant-loop-entry : goal.invariant-loop-entry
invariant-loop-entry l =
    l.entries.items ++ without_brackets l.names (drop l.entry-index l.entry-items)
    ≡ without_brackets l.names l.field
