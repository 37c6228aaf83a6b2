use Rattle.std.proofs.Common.{◌≡◌, true, take}
use Rattle.cross_clear.specs.Guard.{are_unmistaken}
use Rattle.cross_clear.proofs.clear.mistaken_of.Given as goal

abbrev pub invariant-loop-entry : goal.invariant-loop-entry
invariant-loop-entry l =
    are_unmistaken l.members.sides.now l.members.all.now l.binary
    (take l.entry-index l.entries) ≡ true
