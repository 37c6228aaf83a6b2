-- What is told of a run, from what was played.
use Rattle.std.proofs.Common.{ℕ, List, Result, Ok, Err, IfErr, sym, subst}
use Rattle.chroot_state.specs.Held.{Held}
use Rattle.farm_archive.specs.declared.publication.Publication.{Publication}
use Rattle.lane_runner.specs.declared.run.LaneStop.{LaneStop}
use Rattle.plan_verifier.specs.Accepted.{AcceptedPlan}
use Rattle.farm_executor.specs.declared.run.RunFault.{RunFault}
use Rattle.farm_executor.specs.declared.run.RunFault.TheVariants.{Stopped, Memory}
use Rattle.farm_executor.specs.FarmRuns.{IsFault, IsStoppedRun, IsToldOf}
use Rattle.farm_executor.specs.Played.{IsPlayed}
use Rattle.farm_executor.proofs.Codes.{stopped_run}

pub over_err : {T E : Type 0} (P Q : E → Type 0) (r : Result T E) → ((x : E) → P x → Q x)
    → IfErr r P → IfErr r Q
over_err P Q (Ok x) h p = tt
over_err P Q (Err e) h p = h e p

-- the fault that is told
pub fault_told : (a : AcceptedPlan) (gives_up : Type 0) (stops : List LaneStop)
    (chroots : List Held) (spent : List ℕ) (history : List Publication)
    → IsPlayed a gives_up stops chroots spent history → (f : RunFault) → IsToldOf a stops f
    → IsFault a gives_up f
fault_told a gives_up stops chroots spent history played (Stopped code l ends accepted) t = (
  t.0,
  subst (λ es. IsStoppedRun a gives_up es code l) (sym t.1)
      (stopped_run a gives_up stops chroots spent history played code l t.2),
)
fault_told a gives_up stops chroots spent history played Memory t = absurd t
