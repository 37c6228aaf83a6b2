use Rattle.std.proofs.Common.{◌≡◌, ◌++◌, map, take, drop}
use Rattle.drive_run.specs.declared.stage.Stage.{Stage}
use Rattle.drive_run.specs.declared.stage.Stage.TheVariants.{Closed}
use Rattle.drive_run.proofs.stage.close_all.Given as goal

abbrev pub invariant-loop-stage : goal.invariant-loop-stage
invariant-loop-stage l =
    l.lanes
    ≡ map (λ (stage : Stage). Closed) (take l.stage-index l.fn.lanes) ++ drop l.stage-index l.fn.lanes
