use Rattle.std.proofs.Common.{◌≡◌, ◌++◌, drop}
use Rattle.std.specs.List.{flat_map}
use Rattle.cross_laws.specs.Encoding.{singles}
use Rattle.cross_relations.specs.Provides.{item_in}
use Rattle.cross_relations.specs.Senses.{standing_of}
use Rattle.cross_relations.proofs.provides.push_entry.Given as goal

abbrev pub invariant-loop-item : goal.invariant-loop-item
invariant-loop-item l =
    let make = item_in l.sides (standing_of l.own) in
    l.made.items ++ singles (flat_map make (drop l.item-index l.item-items))
    ≡ l.fn.made.items ++ singles (flat_map make l.entry)
