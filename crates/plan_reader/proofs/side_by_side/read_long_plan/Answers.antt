use Rattle.plan_reader.proofs.Kept.{draft-read}
use Rattle.plan_reader.proofs.PartLaws.{plan-goes}
use Rattle.plan_reader.proofs.side_by_side.read_long_plan.Goals as goal

pub finish-requires-clause-limits : goal.finish-requires-clause-limits
finish-requires-clause-limits g c =
    draft-read c.args.universe.now _ _ c.in_ok-so_far.ensures.reading

pub returns-clause-lanes : goal.returns-clause-lanes
returns-clause-lanes g c =
    rw (plan-goes c.args.universe.now c.args.lines.now _ c.in_ok-check_head.ensures.head
    c.in_ok-so_far.ensures.reading) c.finish.ensures.lanes

pub returns-clause-lines : goal.returns-clause-lines
returns-clause-lines g c = c.finish.ensures.lines c.in_ok-so_far.ensures.lines
