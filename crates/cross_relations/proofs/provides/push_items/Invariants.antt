use Rattle.std.proofs.Common.{◌≡◌, ◌++◌, drop}
use Rattle.std.specs.List.{flat_map}
use Rattle.cross_laws.specs.Binary.{atoms}
use Rattle.cross_laws.specs.Encoding.{singles}
use Rattle.cross_relations.specs.Provides.{item_in}
use Rattle.cross_relations.specs.Senses.{standing_of}
use Rattle.cross_relations.proofs.provides.push_items.Given as goal

abbrev pub invariant-loop-entry : goal.invariant-loop-entry
invariant-loop-entry l =
    let make = item_in l.sides (standing_of l.own) in
    l.made.items ++ singles (flat_map make (atoms (drop l.entry-index l.entry-items)))
    ≡ l.fn.made.items ++ singles (flat_map make (atoms l.field))
