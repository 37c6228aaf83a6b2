use Rattle.import_farm.specs.Made.{GetsBlocks, IsCutOf}
use Rattle.import_farm.proofs.indexes.push_cut.Given as goal

abbrev pub invariant-loop-block : goal.invariant-loop-block
invariant-loop-block l = GetsBlocks (IsCutOf l.text l.cut) l.initial.blocks.items l.blocks.items
