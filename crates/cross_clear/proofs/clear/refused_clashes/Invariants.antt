use Rattle.std.proofs.Common.{All, take}
use Rattle.cross_clear.specs.Guard.{AreClashesKept}
use Rattle.cross_clear.proofs.clear.refused_clashes.Given as goal

abbrev pub invariant-loop-binary : goal.invariant-loop-binary
invariant-loop-binary l =
    All (AreClashesKept l.members.sides.now l.members.all.now)
    (take l.binary-index l.members.all.now)
