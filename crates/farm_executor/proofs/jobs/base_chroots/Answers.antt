use Rattle.std.proofs.Common.{◌≡◌, ◌∙◌, sym, ap, subst}
use Rattle.chroot_state.specs.Held.{IsHeld, opened}
use Rattle.plan_model.specs.Plan.{Lane, lane}
use Rattle.farm_executor.specs.Seated.{AreLaneBases}
use Rattle.farm_executor.proofs.Bases.{bases_more}
use Rattle.farm_executor.proofs.jobs.base_chroots.Goals as goal

pub loop-lane-preserved : goal.loop-lane-preserved
loop-lane-preserved c =
    let a = c.args.accepted.now in
    let n = c.loop-lane.lane in
    let u = c.universe-universe.ensures in
    let base : c.base.result ≡ (lane a.plan n).base =
    c.base.ensures ∙ ap (λ (of : Lane). of.base)
    (c.lane.ensures ∙ ap (λ p. lane p n) c.plan-plan.ensures.lanes) in
    subst (AreLaneBases a _) (sym c.in_ok-push.ensures.items)
    (bases_more a n c.loop-lane.chroots.items c.in_ok-open.field-0 c.loop-lane.invariant
    (c.in_ok-open.ensures.opened ∙ (λ i. opened (u i) (base i)))
    (subst (λ v. IsHeld v c.in_ok-open.field-0) u c.in_ok-open.ensures.held))
