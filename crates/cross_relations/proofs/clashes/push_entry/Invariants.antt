use Rattle.std.proofs.Common.{◌≡◌, true, ◌++◌, drop}
use Rattle.std.specs.List.{flat_map}
use Rattle.cross_laws.specs.Encoding.{encoded_clash, singles}
use Rattle.cross_relations.proofs.clashes.push_entry.Given as goal

abbrev pub invariant-loop-atom : goal.invariant-loop-atom
invariant-loop-atom l =
    let make = encoded_clash l.sides true in
    l.made.items ++ singles (flat_map make (drop l.atom-index l.atom-items))
    ≡ l.fn.made.items ++ singles (flat_map make l.entry)
