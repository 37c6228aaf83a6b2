use Rattle.std.proofs.Common.{◌≡◌, ◌≤◌, Bool, length, take}
use Rattle.std.specs.List.{list_any}
use Rattle.deb_relation.specs.Common.{Entry}
use Rattle.cross_relations.proofs.alike.has_same.Given as goal

abbrev pub invariant-loop-entry : goal.invariant-loop-entry
invariant-loop-entry l = record {
  within : l.next ≤ length l.given;
  so_far : (test : Entry → Bool)
      → list_any test (take l.next l.given) ≡ list_any test (take l.entry-index l.made);
}
