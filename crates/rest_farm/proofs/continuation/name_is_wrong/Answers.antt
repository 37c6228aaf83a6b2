use Rattle.std.proofs.Common.{sym, ◌∙◌, arith}
use Rattle.farm_model.specs.Common.{variant, variants}
use Rattle.farm_model.proofs.BelowLaws.{some_below-at}
use Rattle.rest_farm.specs.Odds.{is_wrong}
use Rattle.rest_farm.proofs.continuation.name_is_wrong.Goals as goal

pub returns-then-is_wrong : goal.returns-then-is_wrong
returns-then-is_wrong c =
    let of = c.args.of in
    sym
    (some_below-at (variants c.args.farm.now c.args.name)
    (λ b. is_wrong of.left.now of.brought.now of.gone.now c.args.farm.now (variant c.args.name b))
    c.loop-bit.bit (omega arith) (sym c.is_wrong.ensures ∙ c.if-is_wrong.true))
