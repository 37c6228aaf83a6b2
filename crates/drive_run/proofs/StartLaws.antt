-- Why a drive does not begin, from one call to the next.
use Rattle.std.proofs.Common.{◌≡◌, ℕ, List, Err, refl, sym, subst}
use Rattle.deb_text.specs.Lines.{lines_of}
use Rattle.drive_replay.specs.Follow.{followed_by}
use Rattle.drive_replay.specs.Following.{IsMisfit, first_life}
use Rattle.drive_replay.specs.Laws.{IsReplay}
use Rattle.drive_replay.specs.LaneNotes.{LaneNotes}
use Rattle.drive_replay.specs.declared.journal.ReplayFault.{ReplayFault}
use Rattle.drive_replay.specs.declared.journal.ReplayFault.TheVariants as replay
use Rattle.drive_run.specs.Driven.{IsMisfitOf, IsNotBegun, IsNotedBy, counted, start_fault_of}
use Rattle.drive_run.specs.declared.driven.StartFault.{StartFault}
use Rattle.drive_run.specs.declared.driven.StartFault.TheVariants.{Misfit, WriteFailed, Memory}
use Rattle.drive_run.specs.declared.driven.TheConstants.{FIRST_ENTRY}
use Rattle.farm_model.specs.Universe.{Universe}
use Rattle.plan_reader.specs.CountedPlan.{CountedPlan}
use Rattle.plan_model.specs.Plan.{count}
use Rattle.plan_verifier.specs.Accepted.{AcceptedPlan}
use Rattle.report_sink.specs.Sinks.{SinkState}

misfit_in : (a : AcceptedPlan) (u : Universe) (p : CountedPlan) (entries : List ℕ)
    (f : ReplayFault) → u ≡ a.universe → p ≡ counted a p.lines → IsMisfit u p FIRST_ENTRY entries f
    → IsMisfitOf a entries (start_fault_of f)
misfit_in a u p entries (replay.Misfit n) about same is = (
  p.lines,
  subst (λ q. followed_by FIRST_ENTRY (first_life a.universe q) (lines_of entries) ≡ Err n) same
      (subst (λ v. followed_by FIRST_ENTRY (first_life v p) (lines_of entries) ≡ Err n) about is),
)
misfit_in a u p entries replay.Memory about same is = tt

-- the line that is told of the plan is told of the accepted one
pub misfit_of : (a : AcceptedPlan) (u : Universe) (p : CountedPlan) (entries : List ℕ)
    (f : ReplayFault) (start : StartFault) → u ≡ a.universe → p.lanes ≡ a.plan
    → p.count ≡ count a.universe a.plan → IsMisfit u p FIRST_ENTRY entries f
    → start ≡ start_fault_of f → IsMisfitOf a entries start
misfit_of a u p entries f start about lanes counts is e =
    let same : p ≡ counted a p.lines =
    λ i. record { lanes = lanes i; lines = p.lines; count = counts i } in
    subst (IsMisfitOf a entries) (sym e) (misfit_in a u p entries f about same is)

-- what it notes of the plan it notes of the accepted one
pub noted_by : (a : AcceptedPlan) (u : Universe) (p : CountedPlan) (entries : List ℕ)
    (notes : LaneNotes) → u ≡ a.universe → p.lanes ≡ a.plan → p.count ≡ count a.universe a.plan
    → IsReplay u p FIRST_ENTRY entries notes → IsNotedBy a entries notes
noted_by a u p entries notes about lanes counts is =
    let same : p ≡ counted a p.lines =
    λ i. record { lanes = lanes i; lines = p.lines; count = counts i } in (
      p.lines,
      subst (λ q. IsReplay a.universe q FIRST_ENTRY entries notes) same
          (subst (λ v. IsReplay v p FIRST_ENTRY entries notes) about is),
    )

-- nothing is written by then
pub not_begun : (a : AcceptedPlan) (entries : List ℕ) (s : SinkState) (f : StartFault)
    → IsMisfitOf a entries f → IsNotBegun a entries s s f
not_begun a entries s (Misfit n) is = (is, refl)
not_begun a entries s WriteFailed is = tt
not_begun a entries s Memory is = tt
