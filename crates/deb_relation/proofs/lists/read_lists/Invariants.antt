use Rattle.std.proofs.Common.{◌≡◌, length}
use Rattle.deb_text.specs.Steps.{with_front}
use Rattle.deb_relation.specs.Restrictions.{lists_at}
use Rattle.deb_relation.proofs.lists.read_lists.Given as goal

abbrev pub invariant-loop-list : goal.invariant-loop-list
invariant-loop-list l = with_front l.lists.items (lists_at l.rest) ≡ lists_at l.text

abbrev pub decreases-loop-list : goal.decreases-loop-list
decreases-loop-list l = length l.rest
