use Rattle.std.proofs.Common.{◌≡◌, ◌++◌, take}
use Rattle.deb_text.specs.Lists.{lists}
use Rattle.debian_index.proofs.names.push_all.Given as goal

abbrev pub invariant-loop-other : goal.invariant-loop-other
invariant-loop-other l =
    lists l.names.items ≡ lists l.initial.names.items ++ take l.other-index (lists l.others)
