use Rattle.std.proofs.Common.{◌≡◌, ℕ, ◌<◌, Some}
use Rattle.std.specs.List.{slice_get}
use Rattle.deb_relation.specs.Relations.{Atom}
use Rattle.item_index.specs.Items.{item, KeepsItems, IsListed}
use Rattle.item_index.proofs.index.ItemIndex.add_entry.Given as goal

-- the alternatives so far are listed
abbrev pub invariant-loop-alternative : goal.invariant-loop-alternative
invariant-loop-alternative g l = record {
  kept : KeepsItems l.fn.self l.self;
  names : (j : ℕ) (a : Atom) → j < l.alternative → slice_get l.entry j ≡ Some a
      → IsListed l.self a.name (item l.owner l.number j);
}
