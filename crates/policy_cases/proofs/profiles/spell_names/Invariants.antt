use Rattle.std.proofs.Common.{length}
use Rattle.policy_cases.proofs.profiles.spell_names.Given as goal

abbrev pub decreases-loop-name : goal.decreases-loop-name
decreases-loop-name l = length l.rest
