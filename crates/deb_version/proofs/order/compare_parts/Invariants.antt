use Rattle.std.proofs.Common.{◌≡◌, ◌+◌, length}
use Rattle.deb_version.specs.Order.{part_cmp}
use Rattle.deb_version.proofs.order.compare_parts.Given as goal

abbrev pub invariant-loop-xs : goal.invariant-loop-xs
invariant-loop-xs l = part_cmp l.xs l.ys ≡ part_cmp l.a l.b

abbrev pub decreases-loop-xs : goal.decreases-loop-xs
decreases-loop-xs l = length l.xs + length l.ys
