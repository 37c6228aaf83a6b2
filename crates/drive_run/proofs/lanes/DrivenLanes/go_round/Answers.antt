use Rattle.std.proofs.Common.{sym, subst, ◌∙◌}
use Rattle.drive_run.specs.Asking.{IsStaged}
use Rattle.drive_run.specs.LaneStages.{LaneStages, stage_at}
use Rattle.drive_run.proofs.lanes.DrivenLanes.go_round.Goals as goal

pub returns-clause-staged : goal.returns-clause-staged
returns-clause-staged g c = λ k t at.
    subst (λ (s : LaneStages). IsStaged t.accepted.now t.runner.lane t.chroot
    (g.E.LaneArchive.log t.end) (stage_at s t.runner.lane)) (sym c.hear.ensures.stages)
    (c.round.ensures.staged k t at)
