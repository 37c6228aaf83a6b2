use Rattle.import_farm.specs.Made.{GetsBlocks, IsBlockIn}
use Rattle.import_farm.proofs.indexes.add_all.Given as goal

abbrev pub invariant-loop-text : goal.invariant-loop-text
invariant-loop-text g l = GetsBlocks (IsBlockIn l.texts) l.initial.blocks.items l.blocks.items
