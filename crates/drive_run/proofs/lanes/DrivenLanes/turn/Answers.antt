use Rattle.std.proofs.Common.{◌≡◌, ◌∙◌, ap, sym, subst, arith}
use Rattle.drive_run.specs.LaneStages.{IsAtTurn}
use Rattle.drive_run.specs.Questions.{Standing}
use Rattle.drive_run.proofs.TurnLaws.{same_lane, staged_turn}
use Rattle.drive_run.proofs.lanes.DrivenLanes.turn.Goals as goal

pub returns-clause-staged : goal.returns-clause-staged
returns-clause-staged g c =
    let home = g.E.LaneArchive.home in
    let about = g.E.LaneArchive.about in
    let lane = g.E.LaneArchive.lane in
    let log = g.E.LaneArchive.log in
    let x = c.args.lane.now in
    let y = c.turn-turn.new.self in
    let stays : y.runner.lane ≡ x.runner.lane =
    same_lane (home x.end) (about x.end) (lane x.end) (home y.end) (about y.end) (lane y.end)
    x.accepted.now y.accepted.now x.runner y.runner x.chroot y.chroot (log x.end) (log y.end)
    c.turn-turn.ensures.same c.requires.running c.turn-turn.ensures.running in
    let number = c.saturating_add-instruction.result in
    let before = c.args.self.now.stages in
    let after = c.take.new.self.stages in
    staged_turn y.accepted.now x.runner.lane y.runner.lane number x.runner.done y.runner.done
    y.chroot (log y.end) c.turn-turn.result before after c.requires.due stays
    c.saturating_add-instruction.ensures (omega arith) c.turn-turn.ensures.picked
    (subst (λ l. IsAtTurn l number c.turn-turn.result before after)
    (ap (λ (p : Standing). p.lane) c.place_of.ensures ∙ stays) c.take.ensures.stages)

pub returns-clause-others : goal.returns-clause-others
returns-clause-others g c =
    let home = g.E.LaneArchive.home in
    let about = g.E.LaneArchive.about in
    let lane = g.E.LaneArchive.lane in
    let log = g.E.LaneArchive.log in
    let x = c.args.lane.now in
    let y = c.turn-turn.new.self in
    let stays : y.runner.lane ≡ x.runner.lane =
    same_lane (home x.end) (about x.end) (lane x.end) (home y.end) (about y.end) (lane y.end)
    x.accepted.now y.accepted.now x.runner y.runner x.chroot y.chroot (log x.end) (log y.end)
    c.turn-turn.ensures.same c.requires.running c.turn-turn.ensures.running in
    let is : IsAtTurn x.runner.lane c.saturating_add-instruction.result c.turn-turn.result
    c.args.self.now.stages c.take.new.self.stages =
    subst (λ l. IsAtTurn l c.saturating_add-instruction.result c.turn-turn.result
    c.args.self.now.stages c.take.new.self.stages)
    (ap (λ (p : Standing). p.lane) c.place_of.ensures ∙ stays) c.take.ensures.stages in
    is.others
