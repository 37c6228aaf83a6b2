use Rattle.std.proofs.Common.{◌≡◌, length}
use Rattle.deb_relation.specs.Holding.{profiles_hold, told}
use Rattle.deb_relation.specs.Restrictions.{lists_at}
use Rattle.deb_relation.proofs.HoldingLaws.{held}
use Rattle.deb_relation.proofs.holding.judge_lists.Given as goal

abbrev pub invariant-loop-list : goal.invariant-loop-list
invariant-loop-list g l =
    told (held (g.H.Host.is_active l.host) l.none l.some) (lists_at l.rest)
    ≡ told (profiles_hold (g.H.Host.is_active l.host)) (lists_at l.text)

abbrev pub decreases-loop-list : goal.decreases-loop-list
decreases-loop-list g l = length l.rest
