use Rattle.std.proofs.Common.{◌≡◌, ◌||◌, length}
use Rattle.std.specs.List.{list_any}
use Rattle.deb_text.specs.Common.{traverse, words}
use Rattle.deb_relation.specs.Holding.{told}
use Rattle.deb_relation.specs.Restrictions.{arch_at}
use Rattle.deb_relation.proofs.holding.some_matches.Given as goal

abbrev pub invariant-loop-word : goal.invariant-loop-word
invariant-loop-word g l =
    told (λ names. l.some || list_any (g.H.Host.is_arch l.host) names)
    (traverse (arch_at l.negated) (words l.rest))
    ≡ told (list_any (g.H.Host.is_arch l.host)) (traverse (arch_at l.negated) (words l.text))

abbrev pub decreases-loop-word : goal.decreases-loop-word
decreases-loop-word g l = length l.rest
