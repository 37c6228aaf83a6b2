use Rattle.std.proofs.Common.{◌≡◌, ◌++◌, drop}
use Rattle.cross_laws.specs.Encoding.{encoded_entry}
use Rattle.cross_relations.specs.Senses.{asker_of}
use Rattle.cross_relations.proofs.needs.encode_entry.Given as goal

abbrev pub invariant-loop-atom : goal.invariant-loop-atom
invariant-loop-atom l =
    l.made.items ++ encoded_entry l.sides (asker_of l.at) (drop l.atom-index l.atom-items)
    ≡ encoded_entry l.sides (asker_of l.at) l.entry
