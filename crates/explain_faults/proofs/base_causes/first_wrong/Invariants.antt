use Rattle.std.proofs.Common.{◌≡◌, drop}
use Rattle.explain_faults.specs.Bases.{first_wrong}
use Rattle.explain_faults.proofs.base_causes.first_wrong.Given as goal

abbrev pub invariant-loop-place : goal.invariant-loop-place
invariant-loop-place l =
    first_wrong l.members.universe.now l.members.variants.now l.check 0 l.members.variants.now
    ≡ first_wrong l.members.universe.now l.members.variants.now l.check l.place
    (drop l.place l.members.variants.now)
