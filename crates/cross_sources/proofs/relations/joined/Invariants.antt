use Rattle.std.proofs.Common.{◌≡◌, ◌++◌, drop}
use Rattle.cross_sources.proofs.relations.joined.Given as goal

abbrev pub invariant-loop-entry : goal.invariant-loop-entry
invariant-loop-entry l =
    l.entries.items ++ drop l.entry-index l.entry-items ≡ l.first ++ l.more
