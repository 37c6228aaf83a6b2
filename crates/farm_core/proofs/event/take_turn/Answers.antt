use Rattle.std.proofs.Common.{◌∙◌, ◌+◌, ap, arith, length}
use Rattle.std.proofs.lemmas.List.{get_or_default}
use Rattle.plan_reader.proofs.Counts.{lane-short}
use Rattle.farm_core.proofs.Events.{run_of, free_of, after_goes, given_named, given_bit, given_room, after_gives, after_waits, after_ends, after_fails, after_sleep}
use Rattle.farm_core.proofs.event.take_turn.Goals as goal

pub turn-requires-clause-run : goal.turn-requires-clause-run
turn-requires-clause-run c =
    run_of c.args.universe.now c.args.plan.now.lanes c.args.lanes.now.items
    c.args.archive.now c.requires.core c.args.lane c.index_mut-run.result.now c.requires.there
    c.index_mut-run.ensures.value c.lane-of.result.now c.lane-of.ensures

pub turn-requires-clause-short : goal.turn-requires-clause-short
turn-requires-clause-short c =
    let short = lane-short c.args.plan.now.lanes c.args.lane c.lane-of.result.now c.requires.there
    (c.lane-of.ensures
    ∙ get_or_default c.args.plan.now.lanes c.args.lane _ c.lane-of.result.now c.requires.there) in
    omega (arith, short, c.lanes-lanes.ensures.limits.instructions)

pub turn-requires-clause-free : goal.turn-requires-clause-free
turn-requires-clause-free c =
    free_of c.args.universe.now c.args.plan.now.lanes c.args.lanes.now.items
    c.args.archive.now c.requires.core c.args.lane c.index_mut-run.result.now c.requires.there
    c.index_mut-run.ensures.value c.lane-of.result.now c.lane-of.ensures c.args.traps
    c.requires.free

pub publish-requires-clause-named : goal.publish-requires-clause-named
publish-requires-clause-named c =
    given_named c.args.universe.now c.args.plan.now.lanes c.args.lanes.now.items
    c.args.archive.now c.requires.core c.args.lane c.index_mut-run.result.now c.requires.there
    c.index_mut-run.ensures.value c.lane-of.result.now c.lane-of.ensures
    c.turn.new.self c.in-Gives.output c.in-Gives.ensures

pub publish-requires-clause-bit : goal.publish-requires-clause-bit
publish-requires-clause-bit c =
    given_bit c.args.universe.now c.args.plan.now.lanes c.args.lanes.now.items
    c.args.archive.now c.requires.core c.args.lane c.index_mut-run.result.now c.requires.there
    c.index_mut-run.ensures.value c.lane-of.result.now c.lane-of.ensures
    c.turn.new.self c.in-Gives.output c.in-Gives.ensures

pub publish-requires-clause-room : goal.publish-requires-clause-room
publish-requires-clause-room c =
    given_room c.args.universe.now c.args.plan.now.lanes c.args.lanes.now.items
    c.args.archive.now c.requires.core c.args.lane c.index_mut-run.result.now c.requires.there
    c.index_mut-run.ensures.value c.lane-of.result.now c.lane-of.ensures
    c.turn.new.self c.in-Gives.output c.in-Gives.ensures

pub returns-in-Gives : goal.returns-in-Gives
returns-in-Gives c =
    after_gives c.args.universe.now c.args.plan.now.lanes c.args.lanes.now.items
    c.args.archive.now c.requires.core c.args.lane c.index_mut-run.result.now c.requires.there
    c.index_mut-run.ensures.value c.lane-of.result.now c.lane-of.ensures
    c.turn.new.self c.in-Gives.output c.in-Gives.ensures
    (omega (arith, c.if-run-published.false, ap length c.history-published.ensures))
    c.publish.new.self
    c.publish.ensures.published

pub returns-in-Goes : goal.returns-in-Goes
returns-in-Goes c =
    after_goes c.args.universe.now c.args.plan.now.lanes c.args.lanes.now.items
    c.args.archive.now c.requires.core c.args.lane c.index_mut-run.result.now c.requires.there
    c.index_mut-run.ensures.value c.lane-of.result.now c.lane-of.ensures c.turn.new.self
    c.in-Goes.ensures
    (omega (arith, c.if-run-published.false, ap length c.history-published.ensures))

pub returns-in-Waits : goal.returns-in-Waits
returns-in-Waits c =
    after_waits c.args.universe.now c.args.plan.now.lanes c.args.lanes.now.items
    c.args.archive.now c.requires.core c.args.lane c.index_mut-run.result.now c.requires.there
    c.index_mut-run.ensures.value c.lane-of.result.now c.lane-of.ensures c.turn.new.self
    c.in-Waits.ensures (length c.history-published.result.now + 1)
    (ap (λ h. length h + 1) c.history-published.ensures)

pub returns-in-Ends : goal.returns-in-Ends
returns-in-Ends c =
    after_ends c.args.universe.now c.args.plan.now.lanes c.args.lanes.now.items
    c.args.archive.now c.requires.core c.args.lane c.index_mut-run.result.now c.requires.there
    c.index_mut-run.ensures.value c.lane-of.result.now c.lane-of.ensures c.turn.new.self
    c.in-Ends.ensures
    (omega (arith, c.if-run-published.false, ap length c.history-published.ensures))

pub returns-in-Fails : goal.returns-in-Fails
returns-in-Fails c =
    after_fails c.args.universe.now c.args.plan.now.lanes c.args.lanes.now.items
    c.args.archive.now c.requires.core c.args.lane c.index_mut-run.result.now c.requires.there
    c.index_mut-run.ensures.value c.lane-of.result.now c.lane-of.ensures c.turn.new.self
    c.in-Fails.trap c.in-Fails.ensures
    (omega (arith, c.if-run-published.false, ap length c.history-published.ensures))

pub returns-then-run-published : goal.returns-then-run-published
returns-then-run-published c =
    after_sleep c.args.universe.now c.args.plan.now.lanes c.args.lanes.now.items
    c.args.archive.now c.requires.core c.args.lane c.index_mut-run.result.now c.requires.there
    c.index_mut-run.ensures.value c.lane-of.result.now c.lane-of.ensures
    (omega (arith, c.if-run-published.true, ap length c.history-published.ensures))
