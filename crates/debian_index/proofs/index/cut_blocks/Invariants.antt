use Rattle.std.proofs.Common.{◌-◌, length}
use Rattle.debian_index.proofs.CutLaws.{IsCut}
use Rattle.debian_index.proofs.index.cut_blocks.Given as goal

abbrev pub invariant-loop-start : goal.invariant-loop-start
invariant-loop-start l = IsCut l.text l.blocks.items l.start l.number

abbrev pub decreases-loop-start : goal.decreases-loop-start
decreases-loop-start l = length l.text - l.start
