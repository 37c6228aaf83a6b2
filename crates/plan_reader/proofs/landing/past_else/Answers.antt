use Rattle.std.proofs.Common.{◌≡◌, length, refl, sym, ap, ◌∙◌, arith}
use Rattle.std.proofs.Math.ListN.{drop_of_length-le}
use Rattle.plan_model.specs.Branches.{past_else}
use Rattle.plan_reader.proofs.Landings.{else-here, else-next}
use Rattle.plan_reader.proofs.landing.past_else.Goals as goal

pub loop-next-init : goal.loop-next-init
loop-next-init c = refl

pub returns-then-is_otherwise-clause-place : goal.returns-then-is_otherwise-clause-place
returns-then-is_otherwise-clause-place c =
    sym (c.loop-next.invariant ∙ else-here c.args.instructions.now c.loop-next.next
    c.index-instructions-next.result c.loop-next-test.true c.index-instructions-next.is
    (sym c.is_otherwise.ensures ∙ c.if-is_otherwise.true))

pub loop-next-preserved : goal.loop-next-preserved
loop-next-preserved c =
    c.loop-next.invariant ∙ else-next c.args.instructions.now c.loop-next.next
    c.index-instructions-next.result c.loop-next-test.true c.index-instructions-next.is
    (sym c.is_otherwise.ensures ∙ c.if-is_otherwise.false)

pub returns-clause-place : goal.returns-clause-place
returns-clause-place c =
    let last : c.loop-next.next ≡ length c.args.instructions.now =
    omega (arith, c.loop-next-test.false, c.loop-next.auto.next-end c.requires) in
    sym (c.loop-next.invariant ∙ ap (λ ys. past_else ys c.loop-next.next)
    (drop_of_length-le c.args.instructions.now c.loop-next-test.false) ∙ last)
