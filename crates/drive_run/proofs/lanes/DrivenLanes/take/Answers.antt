use Rattle.std.proofs.Common.{◌≡◌, Option, subst, sym}
use Rattle.lane_runner.specs.declared.turn.Turn.{Turn}
use Rattle.drive_run.specs.LaneStages.{IsAtTurn}
use Rattle.drive_run.proofs.StageLaws.{ended_stays, turn_stays}
use Rattle.drive_run.proofs.lanes.DrivenLanes.take.Goals as goal

pub returns-in-None-clause-stages : goal.returns-in-None-clause-stages
returns-in-None-clause-stages g c = turn_stays _ _ _ _ _ (ended_stays _ _ _ c.end.ensures.stages)

pub returns-in-Some-clause-stages : goal.returns-in-Some-clause-stages
returns-in-Some-clause-stages g c =
    subst (λ (did : Option Turn). IsAtTurn c.args.place.lane c.args.place.instruction did
    c.args.self.now.stages c.take_turn.new.self.stages) (sym c.in-Some.is)
    c.take_turn.ensures.stages
