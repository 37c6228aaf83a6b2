use Rattle.std.proofs.Common.{◌≡◌, None, rules, refl, sym, ◌∙◌, subst, add-one, arith, below_more}
use Rattle.plan_model.specs.Safety.{hazard_at}
use Rattle.plan_verifier.specs.Branch.{IsAt}
use Rattle.explain_reasons.specs.Pins.{pinned, IsPinned, IsTried}
use Rattle.explain_reasons.proofs.Pinned.{start-next}
use Rattle.explain_reasons.proofs.pins.is_safe_with.Goals as goal

pub loop-at-init : goal.loop-at-init
loop-at-init g c =
    let by : IsPinned c.args.stage.now.universe.now c.args.stage.now.plan.now.lanes c.args.number
    c.args.pin c.in_ok-unpack.unpack = search rules in
    record { here = start-next by c.in-Ok.ensures.1; safe = λ i lt. absurd (omega arith) }

pub loop-at-preserved : goal.loop-at-preserved
loop-at-preserved g c =
    let u = c.args.stage.now.universe.now in
    let next = pinned u c.args.stage.now.plan.now.lanes c.args.number c.args.pin in
    let rows = (g.K.KnownWords.known c.args.stage.now.known.now).rows in
    let l = c.args.number in
    let at = c.loop-at.at in
    let past = subst (IsTried u next rows l at c.go_on.new.may) c.if-not-branch.false
    c.in_ok-go_on.ensures in
    record {
      here = subst (λ k. IsAt u next rows l k c.go_on.new.may) (sym (add-one at)) past.1;
      safe = below_more (λ i. hazard_at u next rows l i ≡ None) at c.loop-at.invariant.safe past.0;
    }

pub returns : goal.returns
returns g c = (
  λ t. record {
    unpacks = sym c.unpacks.ensures ∙ c.if-not-unpacks.false;
    safe = λ i up. c.loop-at.invariant.safe i (omega arith);
  },
  λ s. refl,
)
