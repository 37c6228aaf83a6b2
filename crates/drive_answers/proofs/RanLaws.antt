-- What the lanes of a drive came to, as it is told.
use Rattle.std.proofs.Common.{◌≡◌, ℕ, inl, inr, List, Result, Ok, Err, refl, sym, subst}
use Rattle.drive_answers.specs.DriveAnswers.{IsDriveTold, TellsLane, TellsRan}
use Rattle.drive_answers.specs.DriveLines.{fault_line}
use Rattle.drive_answers.proofs.DriveLaws.{told_by}
use Rattle.drive_run.specs.Driven.{IsRan}
use Rattle.farm_answers.specs.Answers.{IsAnswered}
use Rattle.farm_answers.specs.FarmAnswers.{ShowsEnd}
use Rattle.farm_answers.specs.declared.fault.OutsideFault.{OutsideFault}
use Rattle.farm_answers.specs.declared.status.TheConstants.{OUTSIDE}
use Rattle.drive_run.specs.declared.office.Fault.{Fault}
use Rattle.farm_executor.specs.FarmRuns.{IsFarmRun, IsFault}
use Rattle.farm_executor.specs.declared.run.FarmRun.{FarmRun}
use Rattle.farm_executor.specs.declared.run.RunFault.{RunFault}
use Rattle.plan_verifier.specs.Accepted.{AcceptedPlan}
use Rattle.report_sink.specs.Sinks.{SinkState, IsWritten}

-- a run that came to its end is one of the plan that it has
pub ended : (a : AcceptedPlan) (ran : Result FarmRun RunFault) (run : FarmRun) → ran ≡ Ok run
    → IsRan a ran → IsFarmRun run.accepted run.chroots.items run.spent.items run.history.items
ended a ran run e is =
    let both = (subst (IsRan a) e is).0 in
    subst (λ x. IsFarmRun x run.chroots.items run.spent.items run.history.items) (sym both.0)
    both.1

-- and its text is that of the plan
pub end_told : (a : AcceptedPlan) (ran : Result FarmRun RunFault) (run : FarmRun)
    (old new before after : SinkState) (told : Result ℕ OutsideFault) → ran ≡ Ok run
    → IsRan a ran → IsAnswered (ShowsEnd run.accepted) old new told
    → IsDriveTold (ShowsEnd a) (TellsLane a) new before after told
end_told a ran run old new before after told e is answered =
    inl (old, subst (λ x. IsAnswered (ShowsEnd x) old new told) (subst (IsRan a) e is).0.0 answered)

-- why a run has no end
pub fault_in : (a : AcceptedPlan) (ran : Result FarmRun RunFault) (f : RunFault) → ran ≡ Err f
    → IsRan a ran → IsFault a (Unit {0}) f
fault_in a ran f e is = (subst (IsRan a) e is).1

-- the line of a lane that is the cause
pub lane_told : (a accepted : AcceptedPlan) (line : List ℕ) (new before after : SinkState)
    (told : Result ℕ OutsideFault) → accepted ≡ a → told ≡ Ok OUTSIDE → TellsLane accepted line
    → IsWritten before after line → IsDriveTold (ShowsEnd a) (TellsLane a) new before after told
lane_told a accepted line new before after told same e tells written =
    inr (e, line, subst (λ x. TellsLane x line) same tells, written)

-- the line of a lane, among those of a drive that went on
pub lane_or_fault : (a : AcceptedPlan) (new before after : SinkState) (told : Result ℕ OutsideFault)
    → IsDriveTold (ShowsEnd a) (TellsLane a) new before after told
    → IsDriveTold (ShowsEnd a) (TellsRan a) new before after told
lane_or_fault a new before after told is =
    told_by (ShowsEnd a) (ShowsEnd a) (TellsLane a) (TellsRan a) new before after told
    (λ text status shows. shows) (λ line tells. inl tells) is

-- what failed outside of the plan
pub fault_told : (a : AcceptedPlan) (f : Fault) (new before after : SinkState)
    (told : Result ℕ OutsideFault) → told ≡ Ok OUTSIDE → IsWritten before after (fault_line f)
    → IsDriveTold (ShowsEnd a) (TellsRan a) new before after told
fault_told a f new before after told e written = inr (e, fault_line f, inr (f, refl), written)
