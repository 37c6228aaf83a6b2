use Rattle.std.proofs.Common.{◌≡◌, true, take}
use Rattle.cross_clear.specs.Guard.{are_kept}
use Rattle.cross_clear.proofs.clear.first_across.Given as goal

abbrev pub invariant-loop-entry : goal.invariant-loop-entry
invariant-loop-entry l =
    are_kept l.members.sides.now l.members.all.now (take l.entry-index l.entries) ≡ true
