use Rattle.std.proofs.Common.{arith}
use Rattle.plan_reader.specs.LineErrors.{refusal_of_line}
use Rattle.plan_reader.proofs.AssemblyLaws.{lane-kept}
use Rattle.plan_reader.proofs.Noted.{add-noted-fails, noted-is}
use Rattle.plan_reader.proofs.assembly.Assembly.with_use.Goals as goal

pub invariant_of-result-in-Ok : goal.invariant_of-result-in-Ok
invariant_of-result-in-Ok c =
    let it = c.self.inside in
    let xs = c.in_ok-instructions-in-Lane.instructions.items in
    let kept = rw c.in-Lane.is at c.self.invariant in
    let told = noted-is it.count it.published.keys xs _ c.in-Ok.ensures.noted in
    lane-kept it.blocks it.lanes.items c.in-Lane.line c.in-Lane.lane _ xs it.count _
    it.published.keys _ kept told.0 c.in-Ok.ensures.lane c.in-Ok.ensures.count
    (omega (arith, told.1, c.in-Ok.ensures.count))

pub returns-in-Err : goal.returns-in-Err
returns-in-Err c =
    let it = c.self.inside in
    let xs = c.in_ok-instructions-in-Lane.instructions.items in
    let kept = rw c.in-Lane.is at c.self.invariant in
    rw (← c.self.view_is, c.in-Lane.is, c.in_ok-instructions-in-Lane.ensures)
    (add-noted-fails it.count it.published.keys xs it.blocks.ended it.lanes.items c.in-Lane.line
    c.in-Lane.lane kept.tallied refusal_of_line _ c.in-Err.ensures.noted)
