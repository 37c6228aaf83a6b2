use Rattle.may_rows.specs.Words.{may_of}
use Rattle.may_rows.proofs.MetWords.{hold_some, doubts_answer}
use Rattle.may_rows.proofs.instruction.step.Goals as goal

pub returns-clause-doubts : goal.returns-clause-doubts
returns-clause-doubts c in_it may_be of words =
    doubts_answer c.args.of.universe.now c.args.of.lane.now in_it may_be (may_of c.args.state.now)
    (hold_some c.args.of.universe.now c.args.state.now c.requires.of_lane.words) c.args.doubts.now
    c.pass.new.self c.requires.doubts c.args.instruction.now
    (may_of c.go_on.new.state) (c.in_ok-go_on.ensures.answer in_it may_be of words)
    c.upgrades-upgraded.result c.upgrades-upgraded.ensures c.pass.ensures
