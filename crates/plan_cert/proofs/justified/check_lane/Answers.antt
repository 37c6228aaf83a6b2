use Rattle.std.proofs.Common.{◌≡◌, suc, Some, length, inl, inr, sym, ap, subst, ◌∙◌, add-one, arith}
use Rattle.std.proofs.lemmas.Bool.{cases_eq}
use Rattle.plan_model.specs.Common.{possible, instruction_at}
use Rattle.plan_verifier.proofs.Reach.{possible_after}
use Rattle.plan_reader.proofs.Counts.{lane-few}
use Rattle.verdict_laws.specs.Places.{IsJustified}
use Rattle.known_rows.proofs.ReadAt.{read_at}
use Rattle.plan_cert.specs.PlaceRows.{place_rows_of}
use Rattle.plan_cert.specs.Opens.{open_behind}
use Rattle.plan_cert.proofs.HeldLaws.{open-next}
use Rattle.plan_cert.proofs.JustifiedLaws.{past-justified}
use Rattle.plan_cert.proofs.justified.check_lane.Goals as goal

pub overflow_cast-result-then-not-branch : goal.overflow_cast-result-then-not-branch
overflow_cast-result-then-not-branch c =
    let short =
    lane-few c.args.claim.plan.now.lanes c.args.number c.requires.lane
    c.lanes-lanes.ensures.limits in
    let xs = c.instructions-instructions.ensures ∙ ap (λ of. of.instructions) c.lane.ensures in
    omega (arith, short, ap length xs, c.loop-place-test.true)

pub overflow_add-result : goal.overflow_add-result
overflow_add-result c =
    let short =
    lane-few c.args.claim.plan.now.lanes c.args.number c.requires.lane
    c.lanes-lanes.ensures.limits in
    let xs = c.instructions-instructions.ensures ∙ ap (λ of. of.instructions) c.lane.ensures in
    omega (arith, short, ap length xs, c.loop-place-test.true)

pub loop-place-preserved : goal.loop-place-preserved
loop-place-preserved c =
    let u = c.args.claim.universe.now in
    let p = c.args.claim.plan.now.lanes in
    let l = c.args.number in
    let i = c.loop-place.place in
    let xs = c.instructions-instructions.ensures ∙ ap (λ of. of.instructions) c.lane.ensures in
    let x = c.index-instructions-place.result in
    let here : instruction_at p l i ≡ Some x =
    read_at p l c.instructions-instructions.result.now i x xs c.loop-place-test.true
    c.index-instructions-place.is in
    record {
      when_is = c.open_behind-when.ensures
          ∙ ap (λ o. open_behind i o x) c.loop-place.invariant.when_is
          ∙ sym (open-next p l i x here);
      there = rw add-one
          (possible_after u p l c.requires.lane i x here c.add_outputs.new.row
          (c.in_ok-add_outputs.ensures.added (possible u p l i) c.loop-place.invariant.there));
      justified = λ k lt. elim (cases_eq k i) [
        | inl same ↦
            subst (λ n. IsJustified u p (place_rows_of c.args.claim.known.now) l (suc n)) (sym same)
            (c.in_ok-is_justified.ensures.0 c.if-not-branch.false)
        | inr other ↦ c.loop-place.invariant.justified k (omega (arith, lt, other))
      ];
    }

pub returns : goal.returns
returns c =
    let xs = c.instructions-instructions.ensures ∙ ap (λ of. of.instructions) c.lane.ensures in
    past-justified c.args.claim.universe.now c.args.claim.plan.now.lanes
    (place_rows_of c.args.claim.known.now)
    c.args.number c.loop-place.place
    (omega (arith, ap length xs, c.loop-place-test.false))
    c.loop-place.invariant.justified
