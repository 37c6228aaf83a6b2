use Rattle.std.proofs.Common.{◌≡◌, ◌++◌, take}
use Rattle.rest_farm.specs.Archive.{kept_items}
use Rattle.rest_farm.proofs.archive.push_kept.Given as goal

abbrev pub invariant-loop-item : goal.invariant-loop-item
invariant-loop-item l =
    l.list.items ≡ l.initial.list.items ++ kept_items l.out (take l.item-index l.items)
