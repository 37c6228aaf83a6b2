use Rattle.std.proofs.Common.{◌≡◌, ◌++◌, drop}
use Rattle.std.specs.List.{flat_map}
use Rattle.cross_laws.specs.Encoding.{clash_of, singles}
use Rattle.cross_relations.proofs.excluded.push_entry_of.Given as goal

abbrev pub invariant-loop-atom : goal.invariant-loop-atom
invariant-loop-atom l =
    let make = clash_of l.sides l.all l.binary in
    l.made.items ++ singles (flat_map make (drop l.atom-index l.atom-items))
    ≡ l.fn.made.items ++ singles (flat_map make l.entry)
