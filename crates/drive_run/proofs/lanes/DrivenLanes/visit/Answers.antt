use Rattle.std.proofs.Common.{◌≡◌, ◌∙◌}
use Rattle.farm_executor.proofs.TurnedLaws.{turned_on}
use Rattle.drive_run.proofs.TurnLaws.{others_on, same_lane}
use Rattle.drive_run.proofs.lanes.DrivenLanes.visit.Goals as goal

pub loop-preserved : goal.loop-preserved
loop-preserved g c =
    let home = g.E.LaneArchive.home in
    let about = g.E.LaneArchive.about in
    let lane = g.E.LaneArchive.lane in
    let log = g.E.LaneArchive.log in
    let s = c.args.lane.now in
    let x = c.loop.lane in
    let y = c.step.new.lane in
    let was = c.loop.invariant in
    let is = c.step.ensures in
    let stays : y.runner.lane ≡ x.runner.lane =
    same_lane (home x.end) (about x.end) (lane x.end) (home y.end) (about y.end) (lane y.end)
    x.accepted.now y.accepted.now x.runner y.runner x.chroot y.chroot (log x.end) (log y.end)
    is.turned.same was.turned.running is.turned.running in
    record {
      can = tt;
      finite = tt;
      turned = turned_on (home s.end) (about s.end) (lane s.end) (log s.end) (home x.end)
          x.accepted.now x.runner x.chroot (about x.end) (lane x.end) (log x.end) (home y.end)
          y.accepted.now y.runner y.chroot (about y.end) (lane y.end) (log y.end) was.turned
          is.turned;
      staged = is.staged;
      same = stays ∙ was.same;
      others = others_on s.runner.lane x.runner.lane c.args.self.now.stages c.loop.self.stages
          c.step.new.self.stages was.same was.others is.others;
      known = is.known ∙ was.known;
    }
