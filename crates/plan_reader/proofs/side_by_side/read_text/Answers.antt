use Rattle.plan_reader.proofs.TraceLaws.{lines-of}
use Rattle.plan_reader.proofs.side_by_side.read_text.Goals as goal

pub returns-then-count-lt-FEWEST_LINES-clause-lines :
    goal.returns-then-count-lt-FEWEST_LINES-clause-lines
returns-then-count-lt-FEWEST_LINES-clause-lines g c =
    rw (← lines-of _ c.args.text.now _ c.in_ok-lines.ensures) c.read_plan.ensures.lines

pub returns-clause-lines : goal.returns-clause-lines
returns-clause-lines g c =
    rw (← lines-of _ c.args.text.now _ c.in_ok-lines.ensures) c.read_long_plan.ensures.lines
