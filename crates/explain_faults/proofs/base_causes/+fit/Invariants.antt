use Rattle.std.proofs.Common.{length}
use Rattle.explain_faults.proofs.base_causes.+fit.Given as goal

abbrev pub decreases-fit : goal.decreases-fit
decreases-fit l = length l.variants.now
