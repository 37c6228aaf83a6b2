use Rattle.std.proofs.Common.{is_some, ap, ◌∙◌, sym}
use Rattle.plan_model.specs.Common.{possible, maps_at}
use Rattle.plan_verifier.proofs.Steps.{maps-next}
use Rattle.explain_reasons.specs.Cost.{spent_of}
use Rattle.explain_reasons.proofs.Costs.{archive-at, known-is}
use Rattle.explain_reasons.proofs.cost.pass.Goals as goal

pub returns-in_err-cost-clause-known : goal.returns-in_err-cost-clause-known
returns-in_err-cost-clause-known g c =
    let u = c.args.stage.now.universe.now in
    let p = c.args.stage.now.plan.now.lanes in
    let rows = (g.K.KnownWords.known c.args.stage.now.known.now).rows in
    let l = c.args.number in
    let i = c.args.place in
    let x = c.in-Some.instruction.now in
    let here = sym c.in-Some.ensures in
    ap is_some c.from_residual.ensures ∙ ap is_some (sym c.in_err-cost.was)
    ∙ known-is u p rows l i x here c.instruction_cost.result
    (c.instruction_cost.ensures (rows l i) (possible u p l i)
    (archive-at c.requires.stage l i c.requires.lane x here) c.words_at-words.ensures.words)

pub returns : goal.returns
returns g c =
    let u = c.args.stage.now.universe.now in
    let p = c.args.stage.now.plan.now.lanes in
    let rows = (g.K.KnownWords.known c.args.stage.now.known.now).rows in
    let l = c.args.number in
    let i = c.args.place in
    let x = c.in-Some.instruction.now in
    let here = sym c.in-Some.ensures in
    let cost = c.instruction_cost.ensures (rows l i) (possible u p l i)
    (archive-at c.requires.stage l i c.requires.lane x here) c.words_at-words.ensures.words in
    record {
      known = ap is_some (sym c.in_ok-cost.was) ∙ known-is u p rows l i x here c.instruction_cost.result cost;
      spent =
          c.behind.ensures u (rows l i) (possible u p l i) (maps_at u p rows l i)
          (sym cost ∙ c.in_ok-cost.was) c.requires.spent
          ∙ ap spent_of (sym (maps-next u p rows l i x here));
    }
