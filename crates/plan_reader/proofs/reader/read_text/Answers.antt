use Rattle.plan_reader.proofs.TraceLaws.{lines-of}
use Rattle.plan_reader.proofs.reader.read_text.Goals as goal

pub returns-clause-lines : goal.returns-clause-lines
returns-clause-lines c =
    rw (← lines-of _ c.args.text.now _ c.in_ok-lines.ensures) c.read_plan.ensures.lines
