use Rattle.std.proofs.Common.{◌≡◌, ℕ, ◌<◌, None}
use Rattle.plan_model.specs.Safety.{hazard_at}
use Rattle.plan_verifier.specs.Branch.{IsAt}
use Rattle.explain_reasons.specs.Pins.{pinned}
use Rattle.explain_reasons.proofs.pins.is_safe_with.Given as goal

abbrev pub invariant-loop-at : goal.invariant-loop-at
invariant-loop-at g l =
    let u = l.stage.universe.now in
    let next = pinned u l.stage.plan.now.lanes l.number l.fn.pin in
    let rows = (g.K.KnownWords.known l.stage.known.now).rows in
    record {
      here : IsAt u next rows l.number l.at l.may;
      safe : (i : ℕ) → i < l.at → hazard_at u next rows l.number i ≡ None;
    }
