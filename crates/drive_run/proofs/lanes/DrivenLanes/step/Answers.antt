use Rattle.std.proofs.Common.{ap, refl, subst, sym, ◌∙◌}
use Rattle.farm_executor.proofs.TurnedLaws.{unturned}
use Rattle.drive_run.specs.Asking.{IsStaged, outgoing, stand_of, wanted_by}
use Rattle.drive_run.specs.LaneDesks.{request_at}
use Rattle.drive_run.specs.LaneStages.{StaysAtPick, stage_of}
use Rattle.drive_run.specs.Questions.{Standing, standing}
use Rattle.drive_run.specs.Replies.{may_lose, reply_to}
use Rattle.drive_run.specs.declared.stage.Stage.{Stage}
use Rattle.drive_run.proofs.StageLaws.{heeded_stays}
use Rattle.drive_run.proofs.TurnLaws.{asked_there, not_idle, silent_asked, staged_seen, staged_stay}
use Rattle.drive_run.proofs.lanes.DrivenLanes.step.Goals as goal

pub returns-then-has_asked-clause-asked : goal.returns-then-has_asked-clause-asked
returns-then-has_asked-clause-asked g c =
    let x = c.args.lane.now in
    let before = c.args.self.now in
    let after = c.take_reply.new.self in
    silent_asked before.known
    (wanted_by (stand_of x.accepted.now x.runner x.chroot) (stage_of before.stages x.runner.lane))
    before.office.desk after.office.desk
    (outgoing (g.S.Sink.state before.lines.out.now) before.lines.text.items)
    (outgoing (g.S.Sink.state after.lines.out.now) after.lines.text.items)
    (ap (λ lines. outgoing (g.S.Sink.state lines.out.now) lines.text.items)
    c.take_reply.ensures.same.1)

pub returns-then-has_asked-clause-waits : goal.returns-then-has_asked-clause-waits
returns-then-has_asked-clause-waits g c = λ busy. (refl, c.take_reply.ensures.same.1)

pub returns-then-has_asked-clause-staged : goal.returns-then-has_asked-clause-staged
returns-then-has_asked-clause-staged g c =
    let x = c.args.lane.now in
    let before = c.args.self.now in
    let after = c.take_reply.new.self in
    staged_stay x.accepted.now x.runner.lane x.chroot (g.E.LaneArchive.log x.end) before.stages
    after.stages
    (heeded_stays
    (reply_to x.runner.lane (request_at before.office.desk x.runner.lane) before.office.has_ended)
    (may_lose (g.J.Sink.state after.office.journal) (g.J.Journal.is_kept after.office.journal))
    c.take_reply.result x.runner.lane before.stages after.stages c.take_reply.ensures.heeded)
    c.requires.staged

pub returns-then-has_asked-clause-others : goal.returns-then-has_asked-clause-others
returns-then-has_asked-clause-others g c =
    let x = c.args.lane.now in
    let before = c.args.self.now in
    let after = c.take_reply.new.self in
    let stays : StaysAtPick x.runner.lane before.stages after.stages = heeded_stays
    (reply_to x.runner.lane (request_at before.office.desk x.runner.lane) before.office.has_ended)
    (may_lose (g.J.Sink.state after.office.journal) (g.J.Journal.is_kept after.office.journal))
    c.take_reply.result x.runner.lane before.stages after.stages c.take_reply.ensures.heeded in
    stays.others

pub returns-then-is_some-clause-asked : goal.returns-then-is_some-clause-asked
returns-then-is_some-clause-asked g c =
    let x = c.args.lane.now in
    let before = c.args.self.now in
    let after = c.args.self.now in
    silent_asked before.known
    (wanted_by (stand_of x.accepted.now x.runner x.chroot) (stage_of before.stages x.runner.lane))
    before.office.desk after.office.desk
    (outgoing (g.S.Sink.state before.lines.out.now) before.lines.text.items)
    (outgoing (g.S.Sink.state after.lines.out.now) after.lines.text.items)
    refl

pub returns-then-is_some-clause-waits : goal.returns-then-is_some-clause-waits
returns-then-is_some-clause-waits g c = λ busy. (refl, refl)

pub returns-then-is_some-clause-staged : goal.returns-then-is_some-clause-staged
returns-then-is_some-clause-staged g c = c.requires.staged

pub returns-then-is_some-clause-others : goal.returns-then-is_some-clause-others
returns-then-is_some-clause-others g c = λ k other. refl

pub turn-requires-clause-due : goal.turn-requires-clause-due
turn-requires-clause-due g c = sym c.in-Due.ensures

pub returns-in-Due-clause-asked : goal.returns-in-Due-clause-asked
returns-in-Due-clause-asked g c =
    let x = c.args.lane.now in
    let before = c.args.self.now in
    let after = c.turn.new.self in
    silent_asked before.known
    (wanted_by (stand_of x.accepted.now x.runner x.chroot) (stage_of before.stages x.runner.lane))
    before.office.desk after.office.desk
    (outgoing (g.S.Sink.state before.lines.out.now) before.lines.text.items)
    (outgoing (g.S.Sink.state after.lines.out.now) after.lines.text.items)
    (ap (λ lines. outgoing (g.S.Sink.state lines.out.now) lines.text.items)
    c.turn.ensures.same.1)

pub returns-in-Due-clause-waits : goal.returns-in-Due-clause-waits
returns-in-Due-clause-waits g c = λ busy.
    absurd (not_idle _ _ c.has_asked.ensures c.if-has_asked.false busy)

pub go_on-requires : goal.go_on-requires
go_on-requires g c =
    let x = c.args.lane.now in
    let r = g.E.LaneArchive.log x.end in
    let s = c.args.self.now.stages in
    let seen : IsStaged x.accepted.now x.runner.lane x.chroot r c.stage.result =
    subst (λ (st : Stage). IsStaged x.accepted.now x.runner.lane x.chroot r st)
    (sym c.stage.ensures)
    (staged_seen x.accepted.now x.runner.lane x.chroot r s c.requires.staged) in
    record {
      staged = (
        r,
        subst (λ (p : Standing). IsStaged p.accepted p.lane p.chroot r c.stage.result)
            (sym c.place_of.ensures) seen,
      );
    }

pub returns-in_default : goal.returns-in_default
returns-in_default g c =
    let state = g.S.Sink.state in
    let x = c.args.lane.now in
    let before = c.args.self.now in
    let after = c.go_on.new.self in
    let stays : StaysAtPick x.runner.lane before.stages after.stages =
    subst (λ l. StaysAtPick l before.stages after.stages)
    (ap (λ (p : Standing). p.lane) c.place_of.ensures) c.go_on.ensures.stages in
    record {
      turned = unturned (g.E.LaneArchive.home x.end) (g.E.LaneArchive.about x.end)
          (g.E.LaneArchive.lane x.end) (g.E.LaneArchive.log x.end) x.accepted.now x.runner x.chroot
          c.requires.running;
      asked = asked_there before.known (standing c.place_of.result)
          (stand_of x.accepted.now x.runner x.chroot) c.stage.result
          (stage_of before.stages x.runner.lane) before.office.desk after.office.desk
          (outgoing (state before.lines.out.now) before.lines.text.items)
          (outgoing (state after.lines.out.now) after.lines.text.items) c.place_of.ensures
          c.stage.ensures c.go_on.ensures.put;
      waits = λ busy.
          absurd (not_idle _ _ c.has_asked.ensures c.if-has_asked.false busy);
      staged = staged_stay x.accepted.now x.runner.lane x.chroot (g.E.LaneArchive.log x.end)
          before.stages after.stages stays c.requires.staged;
      others = stays.others;
      known = c.go_on.ensures.known;
    }
