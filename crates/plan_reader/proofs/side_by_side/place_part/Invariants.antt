use Rattle.std.proofs.Common.{◌≡◌, ◌+◌, length, drop, fold}
use Rattle.std.specs.Vec.Iter.{into_iter_items}
use Rattle.deb_text.specs.Steps.{steps}
use Rattle.plan_reader.specs.Parts.{AreSaidByLines}
use Rattle.plan_reader.specs.PlanLines.{reading_with}
use Rattle.plan_reader.specs.PlanText.{take_line}
use Rattle.plan_reader.proofs.side_by_side.place_part.Given as goal

abbrev pub invariant-loop-read : goal.invariant-loop-read
invariant-loop-read l = record {
  count : l.at + length (into_iter_items l.read-iterator) ≡ l.fn.first + length l.fn.part;
  rest : AreSaidByLines l.universe (drop l.at l.lines) (into_iter_items l.read-iterator);
  steps : steps (take_line l.universe) l.so_far.reading (drop l.at l.lines)
      ≡ steps (take_line l.universe) l.fn.so_far.reading (drop l.fn.first l.lines);
  lines : fold reading_with l.so_far.lines (drop l.at l.lines)
      ≡ fold reading_with l.fn.so_far.lines (drop l.fn.first l.lines);
}
