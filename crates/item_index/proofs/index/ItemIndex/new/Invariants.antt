use Rattle.std.proofs.Common.{◌<◌, length}
use Rattle.item_index.proofs.index.ItemIndex.new.Given as goal

abbrev pub invariant-loop : goal.invariant-loop
invariant-loop g l =
    0 < length l.lists.items
