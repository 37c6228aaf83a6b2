use Rattle.std.proofs.Common.{ℕ, ◌<◌}
use Rattle.std.specs.Prelude.{slice_index}
use Rattle.plan_cert.specs.Facts.{IsKnownAt}
use Rattle.plan_cert.specs.Stated.{in_row}
use Rattle.plan_cert.specs.PlaceRows.{place_rows_of}
use Rattle.plan_cert.proofs.facts.is_known_in.Given as goal

-- the publishes so far
abbrev pub invariant-loop-n : goal.invariant-loop-n
invariant-loop-n l =
    (k : ℕ) → k < l.n → IsKnownAt l.question.claim.universe.now l.question.claim.plan.now.lanes
    (place_rows_of l.question.claim.known.now)
    (in_row l.question.sources.now) (in_row l.question.new.now) l.number (slice_index l.places k)
