use Rattle.std.proofs.Common.{◌≡◌, true, Some, rules, ap, ◌∙◌, arith}
use Rattle.plan_reader.proofs.Counts.{lane-few}
use Rattle.plan_model.specs.Known.{possible}
use Rattle.plan_verifier.proofs.Steps.{of_archive}
use Rattle.plan_verifier.specs.Walk.{is_plain}
use Rattle.explain_reasons.specs.Pins.{IsTried}
use Rattle.explain_reasons.proofs.Pinned.{known-next, of_this, tried-when, tried-else, tried-end, tried-step}
use Rattle.explain_reasons.proofs.pins.go_on.Goals as goal

pub overflow_cast-place : goal.overflow_cast-place
overflow_cast-place g c =
    omega (arith, c.requires.place, lane-few _ _ c.requires.unpack.lane c.lanes-lanes.ensures.limits)

pub returns-in_ok-begin-in-When : goal.returns-in_ok-begin-in-When
returns-in_ok-begin-in-When g c =
    rw c.in_ok-begin-in-When.ensures
    (tried-when c.requires.unpack c.requires.stage.sound.plan c.requires.at c.in-When.name
    c.in-When.relation (c.instruction_with-instruction.ensures ∙ ap Some c.in-When.is))

pub returns-in-Otherwise : goal.returns-in-Otherwise
returns-in-Otherwise g c =
    rw c.turn.ensures
    (tried-else c.requires.unpack c.requires.stage.sound.plan c.requires.at
    (c.instruction_with-instruction.ensures ∙ ap Some c.in-Otherwise.is))

pub returns-in-EndWhen : goal.returns-in-EndWhen
returns-in-EndWhen g c =
    tried-end c.requires.unpack c.requires.stage.sound.plan c.requires.at
    (c.instruction_with-instruction.ensures ∙ ap Some c.in-EndWhen.is) c.end.new.self
    c.end.result c.end.ensures c.is_none.result c.is_none.ensures

pub words_at-words-requires : goal.words_at-words-requires
words_at-words-requires g c = record {
  stage = c.requires.stage;
  instruction = known-next c.requires.unpack c.requires.stage.sound.plan c.args.place _
      c.instruction_with-instruction.ensures;
  lane = c.requires.unpack.lane;
  place = omega (arith, c.requires.place);
}

pub step-requires-clause-instruction : goal.step-requires-clause-instruction
step-requires-clause-instruction g c =
    known-next c.requires.unpack c.requires.stage.sound.plan c.args.place _
    c.instruction_with-instruction.ensures

pub step-requires-clause-of_lane : goal.step-requires-clause-of_lane
step-requires-clause-of_lane g c =
    of_this c.requires.unpack c.lane.result.now c.lane.ensures c.args.may.now.here
    c.requires.at.of_lane

pub returns-in_default : goal.returns-in_default
returns-in_default g c =
    let u = c.args.stage.now.universe.now in
    let p = c.args.stage.now.plan.now.lanes in
    let rows = (g.K.KnownWords.known c.args.stage.now.known.now).rows in
    let l = c.args.number in
    let i = c.args.place in
    let archive = of_archive u p rows c.requires.stage.sound.universe c.requires.stage.keeps l i
    c.requires.unpack.lane (omega (arith, c.requires.place)) in
    let words = c.words_at-words.ensures.words in
    let plain : is_plain c.instruction_with-instruction.result.now ≡ true = search rules in
    rw (c.is_ok.ensures.value, IsTried)
    (tried-step c.requires.unpack c.requires.stage.sound.plan c.requires.at _ plain
    c.instruction_with-instruction.ensures c.lane.result.now c.lane.ensures
    c.step.new.state c.step.new.doubts c.step.result
    (c.step.ensures.answer (rows l i) (possible u p l i) archive words) c.step.ensures.of_lane
    (c.step.ensures.doubts (rows l i) (possible u p l i) archive words))
