use Rattle.std.proofs.Common.{◌≡◌, Some, ap}
use Rattle.lane_runner.specs.declared.turn.Turn.{Turn}
use Rattle.lane_runner.specs.declared.turn.Turn.TheVariants as turn
use Rattle.drive_run.proofs.StageLaws.{ahead_stays, turn_picks, turn_stays}
use Rattle.drive_run.proofs.lanes.DrivenLanes.take_turn.Goals as goal

pub returns-in-Moved-clause-stages : goal.returns-in-Moved-clause-stages
returns-in-Moved-clause-stages g c =
    turn_stays _ _ _ _ _ (ahead_stays _ _ _ c.go_to.ensures.stages)

pub returns-in-Unpacked-clause-stages : goal.returns-in-Unpacked-clause-stages
returns-in-Unpacked-clause-stages g c =
    turn_picks _ _ c.in-Unpacked.variant _ _ _ (ap (λ (x : Turn). Some x) c.in-Unpacked.is)
    c.pick.ensures.stages

pub returns-in-Branched-clause-stages : goal.returns-in-Branched-clause-stages
returns-in-Branched-clause-stages g c =
    turn_stays _ _ _ _ _ (ahead_stays _ _ _ c.go_into.ensures.stages)

pub returns-in-Published-clause-stages : goal.returns-in-Published-clause-stages
returns-in-Published-clause-stages g c = turn_stays _ _ _ _ _ c.publish.ensures.stages

pub returns-in-Waits-clause-stages : goal.returns-in-Waits-clause-stages
returns-in-Waits-clause-stages g c = turn_stays _ _ _ _ _ c.wait.ensures.stages
