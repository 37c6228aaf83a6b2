use Rattle.std.proofs.Common.{◌≡◌, ℕ, suc, ◌<◌}
use Rattle.plan_model.specs.Known.{possible}
use Rattle.verdict_laws.specs.Places.{IsJustified}
use Rattle.sat_rows.specs.Rows.{IsRowOf}
use Rattle.plan_cert.specs.Opens.{open_at}
use Rattle.plan_cert.specs.PlaceRows.{place_rows_of}
use Rattle.plan_cert.proofs.justified.check_lane.Given as goal

-- the places so far
abbrev pub invariant-loop-place : goal.invariant-loop-place
invariant-loop-place l =
    record {
      there : IsRowOf l.claim.universe.now
          (possible l.claim.universe.now l.claim.plan.now.lanes l.number l.place) l.there;
      justified : (k : ℕ) → k < l.place
          → IsJustified l.claim.universe.now l.claim.plan.now.lanes
          (place_rows_of l.claim.known.now)
          l.number (suc k);
      when_is : l.when ≡ open_at l.claim.plan.now.lanes l.number l.place;
    }
