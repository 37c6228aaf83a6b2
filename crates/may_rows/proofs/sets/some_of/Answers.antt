use Rattle.std.proofs.Common.{ℕ, sym, ap, ◌∙◌, arith}
use Rattle.std.specs.Prelude.{◌&&◌}
use Rattle.farm_model.specs.Packages.{variant, variants}
use Rattle.farm_model.proofs.BelowLaws.{some_below-at, some_below-none}
use Rattle.clause_kernel.specs.Rows.{word_has}
use Rattle.clause_kernel.proofs.Words.{word_has_zero}
use Rattle.may_rows.proofs.sets.some_of.Goals as goal

pub returns-then-set-eq0 : goal.returns-then-set-eq0
returns-then-set-eq0 g c =
    let passes = λ (b : ℕ). g.T.VariantTest.test c.args.universe.now c.args.test.now
    (variant c.args.name b) in
    sym
    (some_below-none (variants c.args.universe.now c.args.name)
    (λ b. word_has c.args.set b && passes b)
    (λ b lt. ap (λ w. word_has w b && passes b) c.if-set-eq0.true
    ∙ ap (λ t. t && passes b) (word_has_zero b)))

pub returns-then-has_passing : goal.returns-then-has_passing
returns-then-has_passing g c =
    sym
    (some_below-at (variants c.args.universe.now c.args.name)
    (λ b. word_has c.args.set b
    && g.T.VariantTest.test c.args.universe.now c.args.test.now (variant c.args.name b))
    c.loop-bit.bit (omega arith)
    (sym c.has_passing.ensures ∙ c.if-has_passing.true))
