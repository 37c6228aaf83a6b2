use Rattle.std.proofs.Common.{ℕ, ◌<◌, length, get_or}
use Rattle.deb_stanza.specs.Stanza.{paragraph_at}
use Rattle.cross_laws.specs.Binary.{Binary}
use Rattle.cross_clear.specs.Guard.{IsPackageKept}
use Rattle.cross_clear.proofs.clear.refused_binaries.Given as goal

abbrev pub invariant-loop-at : goal.invariant-loop-at
invariant-loop-at l =
    (k : ℕ) (p : Binary) → k < l.at → k < length l.members.all.now
    → IsPackageKept l.members.sides.now l.members.all.now (get_or l.members.all.now k p)
    (paragraph_at l.members.paragraphs.now k)
