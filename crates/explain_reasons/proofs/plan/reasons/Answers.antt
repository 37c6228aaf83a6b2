use Rattle.std.proofs.Common.{◌≢◌, [], sym, ap, ◌∙◌}
use Rattle.std.proofs.lemmas.Result.{IfOk-weaker}
use Rattle.may_rows.specs.Words.{may_of}
use Rattle.plan_model.specs.Common.{possible, Lane}
use Rattle.explain_reasons.specs.Listed.{Lists}
use Rattle.explain_reasons.specs.Reasons as spec
use Rattle.explain_reasons.proofs.Costs.{archive-at}
use Rattle.explain_reasons.proofs.HasReason.{not-empty, reasons-at}
use Rattle.explain_reasons.proofs.plan.reasons.Goals as goal

pub returns : goal.returns
returns g c =
    let u = c.args.stage.now.universe.now in
    let p = c.args.stage.now.plan.now.lanes in
    let rows = (g.K.KnownWords.known c.args.stage.now.known.now).rows in
    let l = c.args.number in
    let i = c.args.place in
    let m = may_of c.args.may.now.here in
    let x = c.in-Some.instruction.now in
    let trap = c.args.trap in
    let here = sym c.in-Some.ensures in
    let all = λ (of : Lane). spec.reasons u of (rows l i) (possible u p l i) m x trap in
    let told : Lists c.list_reasons.result (spec.reasons_at u p rows l i trap) =
    rw (← (ap all c.lane.ensures ∙ reasons-at u p rows l i trap x m here c.requires.at.here))
    (c.list_reasons.ensures (rows l i) (possible u p l i)
    (archive-at c.requires.stage l i c.requires.lane x here) c.words_at-words.ensures.words) in
    record {
      told = told;
      there = λ risky. IfOk-weaker _ _ (λ found. found.items ≢ [])
          (λ found is. not-empty u p rows l i trap found.items is risky) told;
    }
