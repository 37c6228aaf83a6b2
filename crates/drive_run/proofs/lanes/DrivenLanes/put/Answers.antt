use Rattle.std.proofs.Common.{ap, inl, sym, ◌∙◌}
use Rattle.drive_run.specs.Asking.{outgoing}
use Rattle.drive_run.specs.LaneStages.{LaneStages, with_stage}
use Rattle.drive_run.specs.Questions.{wanted}
use Rattle.drive_run.specs.declared.stage.Stage.TheVariants.{Ended}
use Rattle.drive_run.proofs.AskLaws.{put_failed, put_so}
use Rattle.drive_run.proofs.StageLaws.{ended_stays, same_stays}
use Rattle.drive_run.proofs.lanes.DrivenLanes.put.Goals as goal

pub returns-then-not-ask-clause-put : goal.returns-then-not-ask-clause-put
returns-then-not-ask-clause-put g c =
    inl (ap (λ lines. outgoing (g.S.Sink.state lines.out.now) lines.text.items) c.give_up.ensures.same.1)

pub returns-then-not-ask-clause-stages : goal.returns-then-not-ask-clause-stages
returns-then-not-ask-clause-stages g c = ended_stays _ _ _ c.give_up.ensures.stages

pub returns-then-not-is_asked-clause-put : goal.returns-then-not-is_asked-clause-put
returns-then-not-is_asked-clause-put g c =
    let state = g.S.Sink.state in
    let old = c.args.self.now.lines in
    let mid = c.is_asked.new.self.lines in
    let end = c.give_up-then-not-is_asked.new.self in
    put_failed c.args.self.now.known (wanted c.args.question) c.args.self.now.office.desk
    end.office.desk (outgoing (state old.out.now) old.text.items)
    (outgoing (state end.lines.out.now) end.lines.text.items) c.number.result c.number.ensures
    (sym c.ask.ensures.told ∙ c.if-not-ask.false) c.requires.undone
    (outgoing (state mid.out.now) mid.text.items)
    (ap (λ lines. outgoing (state lines.out.now) lines.text.items)
    c.give_up-then-not-is_asked.ensures.same.1)
    (c.is_asked.ensures.failed c.if-not-is_asked.true)

pub returns-then-not-is_asked-clause-stages : goal.returns-then-not-is_asked-clause-stages
returns-then-not-is_asked-clause-stages g c =
    ended_stays _ _ _
    (c.give_up-then-not-is_asked.ensures.stages
    ∙ ap (λ (s : LaneStages). with_stage s c.args.question.place.lane Ended)
    c.is_asked.ensures.same.1)

pub returns-clause-put : goal.returns-clause-put
returns-clause-put g c =
    let state = g.S.Sink.state in
    let old = c.args.self.now.lines in
    let new = c.is_asked.new.self.lines in
    let added = c.is_asked.ensures.added c.if-not-is_asked.false in
    put_so c.args.self.now.known (wanted c.args.question) c.args.self.now.office.desk
    c.is_asked.new.self.office.desk (outgoing (state old.out.now) old.text.items)
    (outgoing (state new.out.now) new.text.items) c.number.result c.number.ensures
    (sym c.ask.ensures.told ∙ c.if-not-ask.false) c.requires.undone
    (added.0 ∙ c.ask.ensures.after) added.1

pub returns-clause-stages : goal.returns-clause-stages
returns-clause-stages g c = same_stays _ _ _ c.is_asked.ensures.same.1
