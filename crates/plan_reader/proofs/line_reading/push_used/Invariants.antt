use Rattle.std.proofs.Common.{◌≡◌, ◌++◌, map, drop, Some}
use Rattle.plan_reader.specs.PlanLines.{from_line}
use Rattle.plan_reader.proofs.line_reading.push_used.Given as goal

abbrev pub invariant-loop-line : goal.invariant-loop-line
invariant-loop-line l =
    l.origins.items ++ map (from_line (Some l.used)) (drop l.line-index l.lines)
    ≡ l.fn.origins.items ++ map (from_line (Some l.used)) l.lines
