use Rattle.std.proofs.Common.{[], refl}
use Rattle.std.proofs.lemmas.Result.{err_from_is_err_and}
use Rattle.deb_text.proofs.StepLaws.{traverse-goes, traverse-stops, traverse-ends}
use Rattle.command_line.specs.Schedule.{lane_at, refusal_of}
use Rattle.command_line.proofs.schedule.read_lanes.Goals as goal

pub returns-in_err-read_lane : goal.returns-in_err-read_lane
returns-in_err-read_lane c =
    let p = err_from_is_err_and c.from_residual.result c.from_residual.ensures.1 in
    let so_far = rw c.in-Some.is at c.loop-left.invariant in
    rw (p.1, p.2)
    (traverse-stops lane_at refusal_of _ _ _ _ _ _
    c.next_part.ensures.parts c.in_err-read_lane.ensures so_far)

pub loop-left-preserved : goal.loop-left-preserved
loop-left-preserved c =
    let so_far = rw c.in-Some.is at c.loop-left.invariant in
    rw c.in_ok-push.ensures.items
    (traverse-goes lane_at _ _ _ _ _ _
    c.next_part.ensures.parts c.in_ok-read_lane.ensures so_far)

pub returns : goal.returns
returns c =
    let so_far = rw c.in_default.is at c.loop-left.invariant in
    traverse-ends lane_at _ [] _ refl so_far
