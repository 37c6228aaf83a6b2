-- What a drive comes to, and why it does not begin. Parameters: a an accepted plan, lines those of
-- the entries of its journal, old and new the output before and after.
--
--   IsRan              what its lanes came to
--   IsMisfitIn         the line of the journal with this number is the first that does not fit
--   start_fault_of     where the journal is not followed
--   IsNotedBy          what the entries note
--   IsKnown            what is known of the lanes
--   IsNotBegun         why the drive does not begin
use Rattle.std.specs.Prelude.{◌≡◌, ℕ, List, Result, Err, IfErr, IfOk}
use Rattle.deb_text.specs.Lines.{lines_of}
use Rattle.drive_replay.specs.Follow.{followed_by}
use Rattle.drive_replay.specs.Following.{first_life}
use Rattle.drive_replay.specs.Laws.{IsReplay}
use Rattle.drive_replay.specs.LaneNotes.{LaneNotes}
use Rattle.drive_replay.specs.declared.journal.ReplayFault.{ReplayFault}
use Rattle.drive_replay.specs.declared.journal.ReplayFault.TheVariants as replay
use Rattle.drive_run.specs.DoneBefore.{AreBelow}
use Rattle.drive_run.specs.declared.driven.StartFault.{StartFault}
use Rattle.drive_run.specs.declared.driven.StartFault.TheVariants.{Misfit, Memory}
use Rattle.drive_run.specs.declared.driven.TheConstants.{FIRST_ENTRY}
use Rattle.drive_run.specs.declared.known.Known.{Known}
use Rattle.farm_executor.specs.FarmRuns.{IsFarmRun, IsFault}
use Rattle.farm_executor.specs.declared.run.FarmRun.{FarmRun}
use Rattle.farm_executor.specs.declared.run.RunFault.{RunFault}
use Rattle.plan_reader.specs.CountedPlan.{CountedPlan}
use Rattle.plan_reader.specs.PlanLines.{PlanLines}
use Rattle.plan_model.specs.Plan.{count}
use Rattle.plan_verifier.specs.Accepted.{AcceptedPlan}
use Rattle.report_sink.specs.Sinks.{SinkState}

-- a run of the core in which all lanes came to their ends; or a stop, in which a lane may give up
abbrev pub IsRan : AcceptedPlan → Result FarmRun RunFault → Type 0
IsRan a ran =
    IfOk ran (λ run. (run.accepted ≡ a)
    × IsFarmRun a run.chroots.items run.spent.items run.history.items)
    × IfErr ran (IsFault a (Unit {0}))

-- the plan as a value, whose instructions come from these lines
abbrev pub counted : AcceptedPlan → PlanLines → CountedPlan
counted a from = record { lanes = a.plan; lines = from; count = count a.universe a.plan }

-- the entries stand in their journal from line 7 on
abbrev pub IsMisfitIn : AcceptedPlan → List (List ℕ) → ℕ → Type 0
IsMisfitIn a lines n =
    (from : PlanLines)
    × (followed_by FIRST_ENTRY (first_life a.universe (counted a from)) lines ≡ Err n)

abbrev pub IsNotedBy : AcceptedPlan → List ℕ → LaneNotes → Type 0
IsNotedBy a entries notes =
    (from : PlanLines) × IsReplay a.universe (counted a from) FIRST_ENTRY entries notes

-- Of the lanes is known:
pub record IsKnown (a : AcceptedPlan) (entries : List ℕ) (k : Known) : Type 0 where
  -- what the entries of the journal note,
  pub noted : IsNotedBy a entries k.notes
  -- and that a lane may ask only for what comes after all of that which is done.
  pub below : AreBelow a.plan k.notes k.lanes.items

abbrev pub start_fault_of : ReplayFault → StartFault
start_fault_of (replay.Misfit n) = Misfit n
start_fault_of replay.Memory = Memory

abbrev pub IsMisfitOf : AcceptedPlan → List ℕ → StartFault → Type 0
IsMisfitOf a entries (Misfit n) = IsMisfitIn a (lines_of entries) n
IsMisfitOf a entries _ = Unit {0}

-- its journal does not fit, and nothing is written; or the output took nothing, or memory was refused
abbrev pub IsNotBegun : AcceptedPlan → List ℕ → SinkState → SinkState → StartFault → Type 0
IsNotBegun a entries old new (Misfit n) = IsMisfitIn a (lines_of entries) n × (new ≡ old)
IsNotBegun a entries old new _ = Unit {0}
