use Rattle.deb_text.specs.Lists.{lists}
use Rattle.known_rows.specs.KnownRows.{rows_of}
use Rattle.plan_cert.specs.Made.{AreNewLanes}
use Rattle.plan_cert.proofs.maker.all_rows.Given as goal

-- the lanes so far
abbrev pub invariant-loop-number : goal.invariant-loop-number
invariant-loop-number l =
    AreNewLanes l.making.known.now.universe l.making.known.now.plan (rows_of l.making.known.now)
    l.number (lists l.lanes.items)
