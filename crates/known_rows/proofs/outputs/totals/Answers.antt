use Rattle.std.proofs.Common.{◌≡◌, ◌+◌, [], ◌∷◌, ◌++◌, length, get_or, sym, ap, subst, ◌∙◌, arith}
use Rattle.plan_model.specs.Plan.{lane, lane_outputs}
use Rattle.std.proofs.lemmas.Option.{slice_get-get_or}
use Rattle.known_rows.specs.Outputs.{AreTotals}
use Rattle.known_rows.proofs.Sources.{outs-long}
use Rattle.known_rows.proofs.TotalLaws.{totals_next}
use Rattle.known_rows.proofs.outputs.totals.Goals as goal

pub returns : goal.returns
returns c u p are =
    subst (λ n. AreTotals u p n c.loop-number.totals.items)
    (omega (arith, c.loop-number-test.false, c.loop-number.auto.number-end, are.long))
    (c.loop-number.invariant u p are)

pub loop-number-preserved : goal.loop-number-preserved
loop-number-preserved c u p are =
    let n = c.loop-number.number in
    let lanes = c.args.lanes.now in
    let of = get_or lanes n c.index-lanes-number.result in
    let made : length of.outputs.items ≡ length (lane_outputs u (lane p n)) =
    outs-long u p n of.outputs.items
    (are.each n of (slice_get-get_or lanes n c.index-lanes-number.result c.loop-number-test.true))
    in
    let before = c.loop-number.totals.items in
    subst (AreTotals u p (n + 1))
    (sym (c.in_ok-push.ensures.items ∙ ap (λ xs. before ++ xs ∷ []) c.in_ok-one.ensures))
    (totals_next u p n c.len-total.result before (c.loop-number.invariant u p are)
    (omega (
      arith,
      c.len-total.ensures,
      ap (λ w. length w.outputs.items) c.index-lanes-number.is,
      made,
    )))
