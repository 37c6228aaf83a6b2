use Rattle.std.proofs.Common.{refl, ap, ◌∙◌, sym, subst, arith}
use Rattle.may_rows.specs.Walk.{IsOfLane}
use Rattle.may_rows.specs.Words.{may_of}
use Rattle.plan_model.specs.Common.{possible, risk}
use Rattle.plan_verifier.proofs.Branching.{step-at, risk-at}
use Rattle.plan_reader.proofs.Counts.{lane-few}
use Rattle.plan_verifier.proofs.Steps.{of_archive}
use Rattle.plan_verifier.proofs.walk.step_on.Goals as goal

pub overflow_cast-result-in-Err : goal.overflow_cast-result-in-Err
overflow_cast-result-in-Err g c =
    omega (
      arith,
      c.requires.place,
      lane-few c.args.stage.now.plan.now.lanes c.args.number
          c.requires.lane c.lanes-lanes.ensures.limits,
    )

pub overflow_add-result : goal.overflow_add-result
overflow_add-result g c =
    omega (
      arith,
      c.requires.place,
      lane-few c.args.stage.now.plan.now.lanes c.args.number
          c.requires.lane c.lanes-lanes.ensures.limits,
    )

pub returns-in-Ok : goal.returns-in-Ok
returns-in-Ok g c =
    let u = c.args.stage.now.universe.now in
    let p = c.args.stage.now.plan.now.lanes in
    let rows = (g.K.KnownWords.known c.args.stage.now.known.now).rows in
    let l = c.args.number in
    let i = c.args.place in
    let x = c.args.instruction.now in
    let branched = c.requires.stage.sound.plan.branched l c.requires.lane in
    let archive = of_archive u p rows c.requires.stage.sound.universe c.requires.stage.keeps l i
    c.requires.lane (omega (arith, c.requires.place)) in
    let answer = c.in-Ok.ensures.answer (rows l i) (possible u p l i) archive
    c.words_at-words.ensures.words in
    step-at u p rows l i branched x c.requires.plain c.requires.here c.args.may.now c.requires.at
    c.step-stepped.new.state c.step-stepped.new.doubts
    (ap (λ of. risk u of (rows l i) (possible u p l i) (may_of c.args.may.now.here) x)
    (sym c.lane-lane.ensures) ∙ answer.0)
    answer.1
    (subst (λ of. IsOfLane u of c.step-stepped.new.state) c.lane-lane.ensures
    c.in-Ok.ensures.of_lane)
    (c.in-Ok.ensures.doubts (rows l i) (possible u p l i) archive c.words_at-words.ensures.words)

pub returns-in-Err : goal.returns-in-Err
returns-in-Err g c =
    let u = c.args.stage.now.universe.now in
    let p = c.args.stage.now.plan.now.lanes in
    let rows = (g.K.KnownWords.known c.args.stage.now.known.now).rows in
    let l = c.args.number in
    let i = c.args.place in
    let x = c.args.instruction.now in
    let branched = c.requires.stage.sound.plan.branched l c.requires.lane in
    let archive = of_archive u p rows c.requires.stage.sound.universe c.requires.stage.keeps l i
    c.requires.lane (omega (arith, c.requires.place)) in
    let answer = c.in-Err.ensures.answer (rows l i) (possible u p l i) archive
    c.words_at-words.ensures.words in
    record {
      lane = refl;
      numbered = refl;
      here = risk-at u p rows l i branched x c.requires.here c.args.may.now c.requires.at
          c.in-Err.trap
          (ap (λ of. risk u of (rows l i) (possible u p l i) (may_of c.args.may.now.here) x)
          (sym c.lane-lane.ensures) ∙ answer);
    }
