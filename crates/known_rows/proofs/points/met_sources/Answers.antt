use Rattle.std.proofs.Common.{◌++◌, ◌∷◌, [], None, cond, get_or, sym, ap, ◌∙◌}
use Rattle.std.proofs.lemmas.List.Elements.{filter_more}
use Rattle.known_rows.specs.Hits.{may_meet}
use Rattle.known_rows.proofs.points.met_sources.Goals as goal

pub loop-k-preserved : goal.loop-k-preserved
loop-k-preserved c =
    let all = c.args.all.now in
    let k = c.loop-k.k in
    let x = get_or all k (record { point = None; lane = 0; count = 0 }) in
    c.in_ok-push_met.ensures
    ∙ ap (λ xs. xs ++ cond (may_meet c.args.mark x) (x ∷ []) []) c.loop-k.invariant
    ∙ sym (filter_more (may_meet c.args.mark) all k (record { point = None; lane = 0; count = 0 })
    c.loop-k-test.true)
