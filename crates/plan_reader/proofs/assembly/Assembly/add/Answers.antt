use Rattle.plan_reader.specs.LineErrors.{refusal_of_line}
use Rattle.plan_reader.proofs.PutLaws.{put-fails, put-kept}
use Rattle.plan_reader.proofs.assembly.Assembly.add.Goals as goal

pub invariant_of-self : goal.invariant_of-self
invariant_of-self c =
    let it = c.self.inside in
    put-kept it.blocks it.lanes.items it.count it.published.keys c.args.instruction it.current
    c.self.invariant _ _ _ _ c.in-Ok.ensures

pub returns-in-Err : goal.returns-in-Err
returns-in-Err c =
    let it = c.self.inside in
    rw (← c.self.view_is)
    (put-fails it.blocks it.lanes.items it.count it.published.keys c.args.instruction
    refusal_of_line _ it.current c.self.invariant c.in-Err.ensures)
