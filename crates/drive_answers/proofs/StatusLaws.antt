-- Where a drive stands, from one meaning to another.
use Rattle.std.proofs.Common.{ap, ◌≡◌, ℕ, List, [], Bool, Result, Ok, Err, sym, subst}
use Rattle.deb_text.specs.declared.fault.Fault.{Fault}
use Rattle.drive_answers.specs.Statuses.{IsCoreOf, IsFine, IsWhyNot, TellsFault, TellsLife, TellsPlan, TellsStanding, counted, life_in}
use Rattle.drive_journal.specs.HeadText.{Finding}
use Rattle.drive_replay.specs.Follow.{Life}
use Rattle.drive_replay.specs.Following.{IsReached}
use Rattle.drive_replay.specs.declared.journal.ReplayFault.{ReplayFault}
use Rattle.drive_replay.specs.declared.journal.ReplayFault.TheVariants.{Misfit, Memory}
use Rattle.farm_core.specs.Farm.{Farm}
use Rattle.farm_model.specs.Universe.{Universe}
use Rattle.plan_model.specs.Plan.{Plan, count}
use Rattle.plan_model.specs.Common.{Reachable}
use Rattle.plan_reader.specs.CountedPlan.{CountedPlan}
use Rattle.plan_reader.specs.Planned.{FarmPlan}
use Rattle.plan_verifier.specs.Accepted.{AcceptedPlan}
use Rattle.plan_verifier.specs.Verdict.{IsVerdict}

-- what is told of a plan of the program is told of its lanes
plan_told : (u v : Universe) (lanes : Plan) (p : CountedPlan) (found : Finding) → v ≡ u
    → p.lanes ≡ lanes → p.count ≡ count u lanes → (text : List ℕ) (status : ℕ)
    → TellsLife (life_in v p found) text status → TellsPlan u lanes found text status
plan_told u v lanes p found about same counts text status is =
    let whole : p ≡ counted u lanes p.lines =
    λ i. record { lanes = same i; lines = p.lines; count = counts i } in (
      p.lines,
      subst (λ q. TellsLife (life_in u q found) text status) whole
          (subst (λ w. TellsLife (life_in w p found) text status) about is),
    )

pub life_told : (u v : Universe) (lanes : Plan) (p : CountedPlan) (found : Finding) (x : Life)
    → v ≡ u → p.lanes ≡ lanes → p.count ≡ count u lanes → life_in v p found ≡ Ok x
    → (text : List ℕ) (status : ℕ) → IsFine text status → TellsPlan u lanes found text status
life_told u v lanes p found x about same counts leads text status fine =
    plan_told u v lanes p found about same counts text status
    (subst (λ r. TellsLife r text status) (sym leads) fine)

fault_life : (found : Result Life ℕ) (fault : ReplayFault) → IsWhyNot found fault
    → (text : List ℕ) (status : ℕ) → TellsFault fault text status → TellsLife found text status
fault_life found (Misfit n) why text status is =
    subst (λ r. TellsLife r text status) (sym why) is
fault_life found Memory why text status is = absurd is

pub fault_told : (u v : Universe) (lanes : Plan) (p : CountedPlan) (found : Finding)
    (fault : ReplayFault) → v ≡ u → p.lanes ≡ lanes → p.count ≡ count u lanes
    → IsWhyNot (life_in v p found) fault → (text : List ℕ) (status : ℕ)
    → TellsFault fault text status → TellsPlan u lanes found text status
fault_told u v lanes p found fault about same counts why text status is =
    plan_told u v lanes p found about same counts text status
    (fault_life (life_in v p found) fault why text status is)

pub core_of : (a : AcceptedPlan) (u : Universe) (p : CountedPlan) (f : Farm) → u ≡ a.universe
    → p.lanes ≡ a.plan → p.count ≡ count a.universe a.plan → IsReached u p f → IsCoreOf a f
core_of a u p f about same counts is =
    let whole : p ≡ counted a.universe a.plan p.lines =
    λ i. record { lanes = same i; lines = p.lines; count = counts i } in (
      p.lines,
      subst (λ q. IsReached a.universe q f) whole (subst (λ v. IsReached v p f) about is),
    )

state_of : (u : Universe) (p : CountedPlan) (f : Farm) → IsReached u p f
    → Reachable u p.lanes f.state
state_of u p f is =
    subst (λ v. Reachable v p.lanes f.state) is.0
    (subst (λ q. Reachable f.universe q.lanes f.state) is.1 is.2)

pub core_state : (a : AcceptedPlan) (f : Farm) → IsCoreOf a f
    → Reachable a.universe a.plan f.state
core_state a f is = state_of a.universe (counted a.universe a.plan is.0) f is.1

plan_of : (u : Universe) (p : CountedPlan) (f : Farm) → IsReached u p f
    → (f.universe ≡ u) × (f.plan.lanes ≡ p.lanes)
plan_of u p f is = (is.0, ap (λ q. q.lanes) is.1)

pub core_plan : (a : AcceptedPlan) (f : Farm) → IsCoreOf a f
    → (f.universe ≡ a.universe) × (f.plan.lanes ≡ a.plan)
core_plan a f is = plan_of a.universe (counted a.universe a.plan is.0) f is.1

-- of an accepted plan it is told of what the texts stand for
pub accepted_told : (json : Bool) (found : Finding) (of : Result FarmPlan Fault) (a : AcceptedPlan)
    → IsVerdict of (Ok a) → (text : List ℕ) (status : ℕ)
    → TellsPlan a.universe a.plan found text status → TellsStanding json found of text status
accepted_told json found (Ok of) a is text status told =
    subst (λ u. TellsPlan u of.plan found text status) is.0
    (subst (λ p. TellsPlan a.universe p found text status) is.1 told)
accepted_told json found (Err fault) a is text status told = absurd is
