use Rattle.std.proofs.Common.{sym, ◌∙◌, arith}
use Rattle.farm_model.specs.Common.{names, some_below, variant, variants}
use Rattle.farm_model.proofs.BelowLaws.{some_below-at}
use Rattle.rest_farm.specs.Odds.{is_wrong}
use Rattle.rest_farm.proofs.continuation.some_is_wrong.Goals as goal

pub returns-then-name_is_wrong : goal.returns-then-name_is_wrong
returns-then-name_is_wrong c =
    let of = c.args.of in
    sym
    (some_below-at (names c.args.farm.now)
    (λ n. some_below (variants c.args.farm.now n)
    (λ b. is_wrong of.left.now of.brought.now of.gone.now c.args.farm.now (variant n b)))
    c.loop-name.name (omega arith) (sym c.name_is_wrong.ensures ∙ c.if-name_is_wrong.true))
