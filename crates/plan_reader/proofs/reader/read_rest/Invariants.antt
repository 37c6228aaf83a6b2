use Rattle.std.proofs.Common.{◌≡◌, drop, fold}
use Rattle.deb_text.specs.Steps.{steps}
use Rattle.plan_reader.specs.PlanLines.{reading_with}
use Rattle.plan_reader.specs.PlanText.{take_line}
use Rattle.plan_reader.proofs.reader.read_rest.Given as goal

abbrev pub invariant-loop-i : goal.invariant-loop-i
invariant-loop-i l = record {
  reading : steps (take_line l.names.universe.now) l.so_far.reading (drop l.i l.lines)
      ≡ steps (take_line l.names.universe.now) l.fn.so_far.reading (drop l.first l.lines);
  lines : fold reading_with l.so_far.lines (drop l.i l.lines)
      ≡ fold reading_with l.fn.so_far.lines (drop l.first l.lines);
}
