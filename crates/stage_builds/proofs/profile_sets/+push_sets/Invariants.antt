use Rattle.std.proofs.Common.{◌-◌, length}
use Rattle.stage_builds.proofs.profile_sets.+push_sets.Given as goal

abbrev pub decreases-push_sets : goal.decreases-push_sets
decreases-push_sets l = length l.words.now - l.from
