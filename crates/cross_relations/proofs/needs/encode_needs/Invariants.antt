use Rattle.std.proofs.Common.{◌≡◌, ◌++◌, drop}
use Rattle.cross_laws.specs.Encoding.{encoded_needs}
use Rattle.cross_relations.specs.Senses.{asker_of}
use Rattle.cross_relations.proofs.needs.encode_needs.Given as goal

abbrev pub invariant-loop-entry : goal.invariant-loop-entry
invariant-loop-entry l =
    l.made.items ++ encoded_needs l.sides (asker_of l.at) (drop l.entry-index l.entry-items)
    ≡ encoded_needs l.sides (asker_of l.at) l.field
