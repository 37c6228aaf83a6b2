use Rattle.std.proofs.Common.{◌≡◌, ◌&&◌, length}
use Rattle.deb_text.specs.Common.{traverse, words}
use Rattle.deb_relation.specs.Holding.{list_holds, told}
use Rattle.deb_relation.specs.Restrictions.{item_at}
use Rattle.deb_relation.proofs.holding.all_hold.Given as goal

abbrev pub invariant-loop-word : goal.invariant-loop-word
invariant-loop-word g l =
    told (λ items. l.all && list_holds (g.H.Host.is_active l.host) items)
    (traverse item_at (words l.rest))
    ≡ told (list_holds (g.H.Host.is_active l.host)) (traverse item_at (words l.text))

abbrev pub decreases-loop-word : goal.decreases-loop-word
decreases-loop-word g l = length l.rest
