use Rattle.std.proofs.Common.{◌≡◌, length}
use Rattle.deb_stanza.specs.Names.{lowered, packed, packed_behind}
use Rattle.deb_stanza.proofs.names.packed.Given as goal

abbrev pub invariant-loop-left : goal.invariant-loop-left
invariant-loop-left l = packed_behind l.number (lowered l.left) ≡ packed (lowered l.name)

abbrev pub decreases-loop-left : goal.decreases-loop-left
decreases-loop-left l = length l.left
