use Rattle.std.proofs.Common.{length}
use Rattle.case_files.proofs.run.judge_all.Given as goal

abbrev pub decreases-loop-line : goal.decreases-loop-line
decreases-loop-line g l = length l.rest
