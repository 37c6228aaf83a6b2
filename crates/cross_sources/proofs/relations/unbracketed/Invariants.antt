use Rattle.std.proofs.Common.{◌≡◌, ◌++◌, drop}
use Rattle.cross_sources.specs.Relations.{unbracketed}
use Rattle.cross_sources.proofs.relations.unbracketed.Given as goal

abbrev pub invariant-loop-atom : goal.invariant-loop-atom
invariant-loop-atom l =
    l.left.items ++ unbracketed l.names (drop l.atom-index l.atom-items)
    ≡ unbracketed l.names l.entry
