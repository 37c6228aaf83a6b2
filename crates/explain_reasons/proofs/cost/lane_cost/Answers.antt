use Rattle.std.proofs.Common.{is_some, sym, ap, ◌∙◌, arith}
use Rattle.explain_reasons.proofs.Costs.{needs-is, not_told}
use Rattle.explain_reasons.proofs.cost.lane_cost.Goals as goal

pub returns-in_err-spent : goal.returns-in_err-spent
returns-in_err-spent g c =
    let rows = (g.K.KnownWords.known c.args.stage.now.known.now).rows in
    c.from_residual.ensures
    ∙ sym (not_told c.args.stage.now.universe.now c.args.stage.now.plan.now.lanes rows c.args.number
    c.loop-place.place (omega arith) (sym c.pass.ensures.known ∙ ap is_some c.in_err-spent.was))

pub returns-then-spent : goal.returns-then-spent
returns-then-spent g c =
    let rows = (g.K.KnownWords.known c.args.stage.now.known.now).rows in
    (needs-is c.args.stage.now.universe.now c.args.stage.now.plan.now.lanes rows c.args.number
    c.loop-place.place (omega arith) c.loop-place.invariant.known c.loop-place.spent
    c.loop-place.invariant.spent).0 c.if-spent.true

pub returns : goal.returns
returns g c =
    let rows = (g.K.KnownWords.known c.args.stage.now.known.now).rows in
    (needs-is c.args.stage.now.universe.now c.args.stage.now.plan.now.lanes rows c.args.number
    c.loop-place.place (omega arith) c.loop-place.invariant.known c.loop-place.spent
    c.loop-place.invariant.spent).1 c.if-spent.false
