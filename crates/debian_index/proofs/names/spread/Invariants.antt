use Rattle.std.proofs.Common.{◌≡◌, take}
use Rattle.deb_text.specs.Lists.{lists}
use Rattle.debian_index.specs.Names.{spread}
use Rattle.debian_index.proofs.names.spread.Given as goal

abbrev pub invariant-loop-tail : goal.invariant-loop-tail
invariant-loop-tail l = lists l.names.items ≡ spread l.part (take l.tail-index (lists l.tails))
