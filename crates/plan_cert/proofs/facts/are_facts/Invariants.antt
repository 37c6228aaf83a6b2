use Rattle.std.proofs.Common.{ℕ, ◌<◌}
use Rattle.plan_cert.specs.Facts.{IsKnownAt}
use Rattle.plan_cert.specs.Stated.{in_row}
use Rattle.plan_cert.specs.PlaceRows.{place_rows_of}
use Rattle.plan_cert.proofs.facts.are_facts.Given as goal

-- the lanes so far
abbrev pub invariant-loop-number : goal.invariant-loop-number
invariant-loop-number l =
    (j : ℕ) → j < l.number → (k : ℕ) → IsKnownAt l.question.claim.universe.now
    l.question.claim.plan.now.lanes (place_rows_of l.question.claim.known.now)
    (in_row l.question.sources.now) (in_row l.question.new.now) j k
