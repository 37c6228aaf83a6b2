use Rattle.std.proofs.Common.{sym, ◌∙◌}
use Rattle.cross_clear.proofs.AcrossLaws.{not-replaced}
use Rattle.cross_clear.proofs.across.first_mistaken.Goals as goal

pub returns-then-not-is_replaced : goal.returns-then-not-is_replaced
returns-then-not-is_replaced c =
    not-replaced c.args.sides.now c.args.all.now c.args.binary.now c.args.atom.now
    (sym c.is_replaced.ensures ∙ c.if-not-is_replaced.true)
