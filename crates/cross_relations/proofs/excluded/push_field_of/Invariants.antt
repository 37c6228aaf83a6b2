use Rattle.std.proofs.Common.{◌≡◌, ◌++◌, drop}
use Rattle.cross_laws.specs.Encoding.{clashes_of, singles}
use Rattle.cross_relations.proofs.excluded.push_field_of.Given as goal

abbrev pub invariant-loop-entry : goal.invariant-loop-entry
invariant-loop-entry l =
    l.made.items
    ++ singles (clashes_of l.sides l.all l.binary (drop l.entry-index l.entry-items))
    ≡ l.fn.made.items ++ singles (clashes_of l.sides l.all l.binary l.field)
