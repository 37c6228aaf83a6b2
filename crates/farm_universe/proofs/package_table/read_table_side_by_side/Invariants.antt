use Rattle.std.proofs.Common.{◌-◌, length}
use Rattle.farm_universe.specs.TableParts.{IsTablePart, IsReadTo}
use Rattle.farm_universe.proofs.package_table.read_table_side_by_side.Given as goal

abbrev pub invariant-loop-part : goal.invariant-loop-part
invariant-loop-part g l = record {
  table : IsReadTo l.paragraphs l.part.first l.table;
  part : IsTablePart l.paragraphs l.part;
}

abbrev pub decreases-loop-part : goal.decreases-loop-part
decreases-loop-part g l = length l.paragraphs - l.part.end
