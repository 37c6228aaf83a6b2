use Rattle.known_rows.specs.KnownRows.{rows_of}
use Rattle.plan_cert.specs.Made.{AreNewRows}
use Rattle.plan_cert.proofs.maker.lane_rows.Given as goal

-- the rows so far
abbrev pub invariant-loop-place : goal.invariant-loop-place
invariant-loop-place l =
    AreNewRows l.making.known.now.universe l.making.known.now.plan (rows_of l.making.known.now)
    l.number l.place l.rows.items
