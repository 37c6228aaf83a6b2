use Rattle.std.proofs.Common.{arith}
use Rattle.farm_universe.proofs.TablePartLaws.{read_to_first, read_to_last}
use Rattle.farm_universe.proofs.package_table.read_table_side_by_side.Goals as goal

pub loop-part-init : goal.loop-part-init
loop-part-init g c = record {
  table =
      read_to_first c.args.paragraphs.now _ _ c.in_ok-part.ensures.first
      c.empty_table-table.ensures.empty c.empty_table-table.ensures.fit;
  part = c.in_ok-part.ensures.part;
}

pub returns-clause-read : goal.returns-clause-read
returns-clause-read g c =
    read_to_last c.args.paragraphs.now c.loop-part.part.end
    (omega (arith, c.count.ensures, c.loop-part-test.false)) c.take_read.result
    c.take_read.ensures.read c.take_read.ensures.fault
