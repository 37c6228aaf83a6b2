use Rattle.std.proofs.Common.{◌≡◌, ℕ, ◌<◌, Some}
use Rattle.std.specs.List.{slice_get}
use Rattle.deb_relation.specs.Relations.{Entry}
use Rattle.item_index.specs.Items.{KeepsItems, IsListedEntry}
use Rattle.item_index.proofs.index.ItemIndex.add_field.Given as goal

-- the entries so far are listed
abbrev pub invariant-loop-number : goal.invariant-loop-number
invariant-loop-number g l = record {
  kept : KeepsItems l.fn.self l.self;
  names : (i : ℕ) (e : Entry) → i < l.number → slice_get l.field i ≡ Some e
      → IsListedEntry l.self l.owner i e;
}
