use Rattle.std.proofs.Common.{◌≡◌, ◌+◌, length, drop}
use Rattle.plan_reader.specs.Parts.{AreSaidByLines}
use Rattle.plan_reader.proofs.side_by_side.read_part.Given as goal

abbrev pub invariant-loop-i : goal.invariant-loop-i
invariant-loop-i l = record {
  count : l.first + length l.read.items ≡ l._i;
  said : AreSaidByLines l.names.universe.now (drop l.first l.lines) l.read.items;
}
