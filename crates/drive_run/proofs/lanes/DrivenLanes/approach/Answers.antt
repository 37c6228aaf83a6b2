use Rattle.std.proofs.Common.{ap, inl}
use Rattle.drive_run.specs.Asking.{outgoing}
use Rattle.drive_run.proofs.StageLaws.{due_stays, ended_stays}
use Rattle.drive_run.proofs.lanes.DrivenLanes.approach.Goals as goal

pub returns-in-None-clause-put : goal.returns-in-None-clause-put
returns-in-None-clause-put g c =
    inl (ap (λ lines. outgoing (g.S.Sink.state lines.out.now) lines.text.items) c.end.ensures.same.1)

pub returns-in-None-clause-stages : goal.returns-in-None-clause-stages
returns-in-None-clause-stages g c = ended_stays _ _ _ c.end.ensures.stages

pub returns-in-Some-Wait-clause-put : goal.returns-in-Some-Wait-clause-put
returns-in-Some-Wait-clause-put g c =
    inl (ap (λ lines. outgoing (g.S.Sink.state lines.out.now) lines.text.items) c.go_to.ensures.same.1)

pub returns-in-Some-Wait-clause-stages : goal.returns-in-Some-Wait-clause-stages
returns-in-Some-Wait-clause-stages g c = due_stays _ _ _ c.go_to.ensures.stages
