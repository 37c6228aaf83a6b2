use Rattle.std.proofs.Common.{suc, ◌+◌, Some, refl, ap, ◌∙◌, sym, subst, arith}
use Rattle.plan_model.specs.Plan.{lane}
use Rattle.plan_verifier.specs.Branch.{IsAt, IsBehindEnd}
use Rattle.plan_verifier.proofs.Branching.{begin-at, turn-at, held-at, end-at, parts-at, told-before, when-safe, else-safe}
use Rattle.plan_reader.proofs.Counts.{lane-few}
use Rattle.plan_verifier.proofs.Steps.{instruction-is, below-lane}
use Rattle.plan_verifier.proofs.walk.advance.Goals as goal

pub overflow_cast-place : goal.overflow_cast-place
overflow_cast-place g c =
    omega (
      arith,
      c.requires.place,
      lane-few c.args.stage.now.plan.now.lanes c.args.number
          c.requires.lane c.lanes-lanes.ensures.limits,
    )

pub step_on-requires-clause-here : goal.step_on-requires-clause-here
step_on-requires-clause-here g c =
    instruction-is c.args.stage.now.plan.now.lanes c.args.number c.args.place c.lane.result.now
    c.instructions.result.now c.index-instructions-place.result c.lane.ensures
    c.instructions.ensures
    (below-lane c.args.stage.now.plan.now.lanes c.args.number c.args.place c.lane.result.now
    c.instructions.result.now c.lane.ensures c.instructions.ensures c.requires.place)
    c.index-instructions-place.is

pub returns-in_ok-begin-in-When : goal.returns-in_ok-begin-in-When
returns-in_ok-begin-in-When g c =
    let u = c.args.stage.now.universe.now in
    let p = c.args.stage.now.plan.now.lanes in
    let rows = (g.K.KnownWords.known c.args.stage.now.known.now).rows in
    let l = c.args.number in
    let i = c.args.place in
    let branched = c.requires.stage.sound.plan.branched l c.requires.lane in
    let is = instruction-is p l i c.lane.result.now
    c.instructions.result.now c.index-instructions-place.result c.lane.ensures
    c.instructions.ensures
    (below-lane p l i c.lane.result.now c.instructions.result.now c.lane.ensures
    c.instructions.ensures c.requires.place)
    c.index-instructions-place.is
    ∙ ap Some c.in-When.is in (
      when-safe u p rows l i branched c.in-When.name c.in-When.relation is,
      subst (IsAt u p rows l (suc i)) (sym c.in_ok-begin-in-When.ensures)
          (begin-at u p rows l i branched c.in-When.name c.in-When.relation is c.args.may.now
          c.requires.at),
    )

pub returns-in-Otherwise : goal.returns-in-Otherwise
returns-in-Otherwise g c =
    let u = c.args.stage.now.universe.now in
    let p = c.args.stage.now.plan.now.lanes in
    let rows = (g.K.KnownWords.known c.args.stage.now.known.now).rows in
    let l = c.args.number in
    let i = c.args.place in
    let branched = c.requires.stage.sound.plan.branched l c.requires.lane in
    let is = instruction-is p l i c.lane.result.now
    c.instructions.result.now c.index-instructions-place.result c.lane.ensures
    c.instructions.ensures
    (below-lane p l i c.lane.result.now c.instructions.result.now c.lane.ensures
    c.instructions.ensures c.requires.place)
    c.index-instructions-place.is
    ∙ ap Some c.in-Otherwise.is in (
      else-safe u p rows l i branched is,
      subst (IsAt u p rows l (suc i)) (sym c.turn.ensures)
          (turn-at u p rows l i branched is c.args.may.now c.requires.at),
    )

pub overflow_add-result : goal.overflow_add-result
overflow_add-result g c =
    let u = c.args.stage.now.universe.now in
    let p = c.args.stage.now.plan.now.lanes in
    let rows = (g.K.KnownWords.known c.args.stage.now.known.now).rows in
    let l = c.args.number in
    let i = c.args.place in
    let branched = c.requires.stage.sound.plan.branched l c.requires.lane in
    let is = instruction-is p l i c.lane.result.now
    c.instructions.result.now c.index-instructions-place.result c.lane.ensures
    c.instructions.ensures
    (below-lane p l i c.lane.result.now c.instructions.result.now c.lane.ensures
    c.instructions.ensures c.requires.place)
    c.index-instructions-place.is
    ∙ ap Some c.in-EndWhen.is in
    let done = c.end.ensures (lane p l)
    (held-at u p rows l i branched c.args.may.now c.requires.at) in
    let told = parts-at u p rows l i branched is c.args.may.now c.end.new.self c.requires.at
    c.in-Some.at
    (subst (IsBehindEnd u (lane p l) c.args.may.now c.end.new.self) c.in-Some.is done) in
    omega (
      arith,
      told.1,
      told-before u p rows l i branched,
      c.requires.place,
      lane-few p l c.requires.lane c.lanes-lanes.ensures.limits,
    )

pub returns-in-Some : goal.returns-in-Some
returns-in-Some g c =
    let u = c.args.stage.now.universe.now in
    let p = c.args.stage.now.plan.now.lanes in
    let rows = (g.K.KnownWords.known c.args.stage.now.known.now).rows in
    let l = c.args.number in
    let i = c.args.place in
    let branched = c.requires.stage.sound.plan.branched l c.requires.lane in
    let is = instruction-is p l i c.lane.result.now
    c.instructions.result.now c.index-instructions-place.result c.lane.ensures
    c.instructions.ensures
    (below-lane p l i c.lane.result.now c.instructions.result.now c.lane.ensures
    c.instructions.ensures c.requires.place)
    c.index-instructions-place.is
    ∙ ap Some c.in-EndWhen.is in
    let done = c.end.ensures (lane p l)
    (held-at u p rows l i branched c.args.may.now c.requires.at) in
    let told = parts-at u p rows l i branched is c.args.may.now c.end.new.self c.requires.at
    c.in-Some.at
    (subst (IsBehindEnd u (lane p l) c.args.may.now c.end.new.self) c.in-Some.is done) in
    record { lane = refl; numbered = ap (λ k. k + 1) told.1; here = told.0 }

pub returns-in-None : goal.returns-in-None
returns-in-None g c =
    let u = c.args.stage.now.universe.now in
    let p = c.args.stage.now.plan.now.lanes in
    let rows = (g.K.KnownWords.known c.args.stage.now.known.now).rows in
    let l = c.args.number in
    let i = c.args.place in
    let branched = c.requires.stage.sound.plan.branched l c.requires.lane in
    let is = instruction-is p l i c.lane.result.now
    c.instructions.result.now c.index-instructions-place.result c.lane.ensures
    c.instructions.ensures
    (below-lane p l i c.lane.result.now c.instructions.result.now c.lane.ensures
    c.instructions.ensures c.requires.place)
    c.index-instructions-place.is
    ∙ ap Some c.in-EndWhen.is in
    let done = c.end.ensures (lane p l)
    (held-at u p rows l i branched c.args.may.now c.requires.at) in
    end-at u p rows l i branched is c.args.may.now c.end.new.self c.requires.at
    (subst (IsBehindEnd u (lane p l) c.args.may.now c.end.new.self) c.in-None.is done)
