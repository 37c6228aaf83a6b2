use Rattle.std.proofs.Common.{◌≡◌, ◌≢◌, Some, refl, sym, ap, ◌∙◌}
use Rattle.plan_model.specs.Plan.{instruction_at}
use Rattle.plan_verifier.proofs.Steps.{instruction-is, below-lane}
use Rattle.explain_reasons.proofs.Pinned.{each}
use Rattle.explain_reasons.proofs.pins.instruction_with.Goals as goal

pub returns-then-place-by : goal.returns-then-place-by
returns-then-place-by c =
    each c.requires.unpack (λ i o. i ≡ c.args.by.pin.place → o ≡ Some c.args.by.unpack.now)
    (λ same. ap Some (sym c.requires.unpack.is)) (λ i other same. absurd (other same)) c.args.place
    c.if-place-by.true

pub returns-else-place-by : goal.returns-else-place-by
returns-else-place-by c =
    let p = c.args.plan.now.lanes in
    each c.requires.unpack (λ i o. i ≢ c.args.by.pin.place → o ≡ instruction_at p c.args.number i)
    (λ differ. absurd (differ refl)) (λ i other differ. refl) c.args.place c.if-place-by.false
    ∙ instruction-is p c.args.number c.args.place _ _ _ c.lane.ensures c.instructions.ensures
    (below-lane p c.args.number c.args.place _ _ c.lane.ensures c.instructions.ensures
    c.requires.place) c.index-instructions-place.is
