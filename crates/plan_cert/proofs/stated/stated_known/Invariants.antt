use Rattle.std.proofs.Common.{All}
use Rattle.cert_text.specs.Certificates.{IsNewRow}
use Rattle.plan_cert.specs.Places.{AreRowsOfLanes}
use Rattle.plan_cert.specs.Stated.{listed_rows}
use Rattle.plan_cert.proofs.stated.stated_known.Given as goal

-- the lanes so far
abbrev pub invariant-loop-number : goal.invariant-loop-number
invariant-loop-number l =
    record {
      places : AreRowsOfLanes l.universe l.plan.lanes
          (listed_rows l.plan.lanes l.certificate)
          l.number l.places.items l.rows.items;
      new : All (IsNewRow l.universe) l.rows.items;
    }
