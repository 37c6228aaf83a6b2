use Rattle.std.proofs.Common.{◌≡◌, ◌++◌, drop}
use Rattle.cross_laws.specs.Encoding.{encoded_clashes}
use Rattle.cross_relations.proofs.clashes.encode_build_clashes.Given as goal

abbrev pub invariant-loop-entry : goal.invariant-loop-entry
invariant-loop-entry l =
    l.made.items ++ encoded_clashes l.sides (drop l.entry-index l.entry-items)
    ≡ encoded_clashes l.sides l.field
