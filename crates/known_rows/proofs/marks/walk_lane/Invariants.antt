use Rattle.known_rows.specs.Marks.{ArePast}
use Rattle.known_rows.proofs.MarkLaws.{IsPassed}
use Rattle.known_rows.proofs.marks.walk_lane.Given as goal

-- the instructions so far
abbrev pub invariant-loop-place : goal.invariant-loop-place
invariant-loop-place l = record {
  passed : IsPassed l.universe l.plan.lanes l.number l.place l.marks.items l.outputs.items l.last;
  past : ArePast l.universe l.plan.lanes l.number l.place l.past.items;
}
