use Rattle.std.proofs.Common.{◌≡◌, ◌&&◌, nat_lt, Some, length, refl, sym, ap, subst, ◌∙◌}
use Rattle.farm_model.specs.Common.{variant, variants, Universe}
use Rattle.plan_model.specs.Plan.{Plan, lane, outputs_before}
use Rattle.known_rows.specs.declared.clock.Clock.{Clock}
use Rattle.known_rows.specs.declared.marks.Past.{Past}
use Rattle.known_rows.specs.Outputs.{PlanOutputs, AreTotals}
use Rattle.known_rows.proofs.PossibleRows.{possible_clock}
use Rattle.known_rows.proofs.outputs.Outputs.possible_word.Goals as goal

pub returns : goal.returns
returns c b =
    let u = c.args.universe.now in
    let p = c.args.self.now.plan in
    let l = c.args.number in
    let i = c.args.place in
    let n = c.args.name in
    let clock : Clock =
    record { lane = l; own = c.past.result.own; columns = c.deref.result; last = Some 0 } in
    let of_universe = ap (λ (o : PlanOutputs). o.universe) c.self.view_is in
    let of_plan = ap (λ (o : PlanOutputs). o.plan) c.self.view_is in
    let same : c.self.inside.universe.value ≡ u = cc (of_universe, c.requires.of_universe) in
    let same_plan : c.self.inside.plan.value.lanes ≡ p = cc (of_plan, of_plan) in
    let totals : AreTotals u p (length p) c.deref.result.now =
    subst (λ (w : Universe). AreTotals w p (length p) c.deref.result.now) same
    (subst (λ (q : Plan). AreTotals c.self.inside.universe.value q
    (length q) c.deref.result.now) same_plan
    (subst (AreTotals c.self.inside.universe.value c.self.inside.plan.value.lanes
    (length c.self.inside.plan.value.lanes))
    (sym c.deref.ensures.value) c.self.invariant.in_all)) in
    let own : c.past.result.own ≡ outputs_before u (lane p l) i 0 =
    ap (λ (w : Past). w.own) c.past.ensures
    ∙ ap (λ (w : Universe). outputs_before w (lane p l) i 0) c.requires.of_universe in
    c.word.ensures b
    ∙ ap (λ t. nat_lt b (variants u n) && t)
    (sym (possible_clock u p l i clock refl own refl totals (variant n b)))
