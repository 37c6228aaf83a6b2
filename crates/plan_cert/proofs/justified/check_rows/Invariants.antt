use Rattle.std.proofs.Common.{ℕ, suc, ◌<◌}
use Rattle.verdict_laws.specs.Places.{IsJustified}
use Rattle.plan_cert.specs.PlaceRows.{place_rows_of}
use Rattle.plan_cert.proofs.justified.check_rows.Given as goal

-- the lanes so far
abbrev pub invariant-loop-number : goal.invariant-loop-number
invariant-loop-number l =
    (j k : ℕ) → j < l.number → IsJustified l.claim.universe.now l.claim.plan.now.lanes
    (place_rows_of l.claim.known.now) j (suc k)
