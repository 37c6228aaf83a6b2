use Rattle.std.proofs.Common.{arith}
use Rattle.deb_text.proofs.NumberLaws.{below-fifteen, within-fifteen}
use Rattle.deb_text.proofs.numbers.number_of.Goals as goal

pub overflow_mul-number : goal.overflow_mul-number
overflow_mul-number c =
    let room = below-fifteen _ _ c.loop-digit.invariant.below (omega (arith, c.requires.short)) in
    omega (arith, room)

pub overflow_add-number : goal.overflow_add-number
overflow_add-number c =
    let room = below-fifteen _ _ c.loop-digit.invariant.below (omega (arith, c.requires.short)) in
    omega (arith, room, c.type_inv.digits c.loop-digit.digit-index)

pub returns-clause-small : goal.returns-clause-small
returns-clause-small c =
    within-fifteen _ _ c.loop-digit.invariant.below (omega (arith, c.requires.short))
