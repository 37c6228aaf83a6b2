use Rattle.std.proofs.Common.{◌≡◌, ◌++◌, length}
use Rattle.std.specs.Prelude.{option_to_list}
use Rattle.plan_reader.specs.BlockTable.{part_steps, turns, AreParts}
use Rattle.plan_reader.proofs.blocks.open_part.Given as goal

abbrev pub invariant-loop-next : goal.invariant-loop-next
invariant-loop-next g l = record {
  same : l.out.items ++ part_steps l.steps l.rows l.left.items
      ≡ part_steps l.steps l.rows (option_to_list l.fn.part);
  known : AreParts (length l.steps) (length l.rows) l.left.items;
}

abbrev pub decreases-loop-next : goal.decreases-loop-next
decreases-loop-next g l = turns l.rows l.left.items
