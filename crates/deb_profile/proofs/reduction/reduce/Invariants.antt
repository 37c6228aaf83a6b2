use Rattle.std.proofs.Common.{◌≡◌, ◌++◌, drop}
use Rattle.deb_profile.specs.Reduction.{reduced}
use Rattle.deb_profile.proofs.reduction.reduce.Given as goal

abbrev pub invariant-loop-entry : goal.invariant-loop-entry
invariant-loop-entry l =
    l.entries.items ++ reduced l.names l.active (drop l.entry-index l.entry-items)
    ≡ reduced l.names l.active l.relations
