use Rattle.std.proofs.Common.{◌≡◌, ◌++◌, drop}
use Rattle.deb_profile.specs.Reduction.{reduced_entry}
use Rattle.deb_profile.proofs.reduction.reduce_entry.Given as goal

abbrev pub invariant-loop-atom : goal.invariant-loop-atom
invariant-loop-atom l =
    l.left.items ++ reduced_entry l.names l.active (drop l.atom-index l.atom-items)
    ≡ reduced_entry l.names l.active l.entry
