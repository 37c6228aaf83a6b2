use Rattle.std.proofs.Common.{◌≡◌}
use Rattle.plan_cert.specs.Opens.{open_at}
use Rattle.plan_cert.specs.PlaceRows.{IsExtended, AreRowNumbers}
use Rattle.plan_cert.specs.Stated.{rows_before, listed_rows}
use Rattle.plan_cert.proofs.stated.lane_places.Given as goal

-- the places so far
abbrev pub invariant-loop-place : goal.invariant-loop-place
invariant-loop-place l =
    record {
      used : l.used ≡ rows_before l.stating.plan.now.lanes l.number l.place;
      more : IsExtended l.stating.universe.now l.initial.rows.items l.rows.items;
      when_is : l.when ≡ open_at l.stating.plan.now.lanes l.number l.place;
      numbers : AreRowNumbers l.stating.universe.now
          (listed_rows l.stating.plan.now.lanes l.stating.certificate.now l.number)
          l.place l.numbers.items l.rows.items;
    }
