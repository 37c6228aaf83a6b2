use Rattle.std.proofs.Common.{◌≡◌, drop, fold}
use Rattle.std.specs.Vec.Iter.{into_iter_items}
use Rattle.deb_text.specs.Steps.{steps}
use Rattle.plan_reader.specs.Parts.{ArePartsSaid}
use Rattle.plan_reader.specs.PlanLines.{no_lines_read, reading_with}
use Rattle.plan_reader.specs.PlanText.{take_line, reading_of}
use Rattle.plan_reader.proofs.side_by_side.place_parts.Given as goal

abbrev pub invariant-loop-part : goal.invariant-loop-part
invariant-loop-part l = record {
  rest : ArePartsSaid l.names.universe.now l.count (drop l.next l.lines)
      (into_iter_items l.part-iterator);
  steps : steps (take_line l.names.universe.now) l.so_far.reading (drop l.next l.lines)
      ≡ reading_of l.names.universe.now (drop 1 l.lines);
  lines : fold reading_with l.so_far.lines (drop l.next l.lines)
      ≡ fold reading_with no_lines_read (drop 1 l.lines);
}
