use Rattle.std.proofs.Common.{◌≡◌}
use Rattle.wait_order.specs.Standing.{IsRound}
use Rattle.wait_order.proofs.rounds.round.Given as goal

-- the lanes so far
abbrev pub invariant-loop-number : goal.invariant-loop-number
invariant-loop-number l =
    IsRound l.course.universe.now l.course.plan.now.lanes l.initial.ats l.ats l.initial.order.items
    l.initial.archive
    l.order.items l.archive l.number l.moved × (l.rows ≡ l.initial.rows)
