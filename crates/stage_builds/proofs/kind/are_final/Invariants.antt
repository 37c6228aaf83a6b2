use Rattle.std.proofs.Common.{◌≡◌, length}
use Rattle.deb_text.specs.Common.{words}
use Rattle.stage_builds.specs.Kinds.{are_final}
use Rattle.stage_builds.proofs.kind.are_final.Given as goal

abbrev pub invariant-loop-profile : goal.invariant-loop-profile
invariant-loop-profile l = are_final l.base (words l.rest) ≡ are_final l.base (words l.profiles)

abbrev pub decreases-loop-profile : goal.decreases-loop-profile
decreases-loop-profile l = length l.rest
