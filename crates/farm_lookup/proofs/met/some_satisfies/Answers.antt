use Rattle.std.proofs.Common.{sym, ◌∙◌, arith}
use Rattle.farm_model.specs.Packages.{variant, variants, satisfies}
use Rattle.farm_model.proofs.BelowLaws.{some_below-at}
use Rattle.farm_lookup.proofs.met.some_satisfies.Goals as goal

pub returns-then-satisfies : goal.returns-then-satisfies
returns-then-satisfies c =
    sym
    (some_below-at (variants c.args.universe.now c.args.name)
    (λ b. satisfies c.args.universe.now c.args.atom.now (variant c.args.name b))
    c.loop-bit.bit (omega arith)
    (sym c.satisfies.ensures ∙ c.if-satisfies.true))
