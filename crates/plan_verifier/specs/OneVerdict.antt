-- The verdicts on one plan: where it is refused nothing shows it safe, and there is one answer.
--
--   RefusalsAreRight     a refused plan has no annotation together with an order
--   IsSameAnswer         two verdicts that say the same, memory apart
--   VerdictsAreOne       the verdicts on the same texts say the same
use Rattle.std.specs.Prelude.{◌≡◌, ◌≢◌, ℕ, List, Result, Ok, Err}
use Rattle.deb_text.specs.Lists.{lists}
use Rattle.deb_text.specs.declared.fault.Fault.{Fault}
use Rattle.plan_reader.specs.Planned.{FarmPlan}
use Rattle.farm_model.specs.Universe.{Universe}
use Rattle.plan_model.specs.Common.{Rows, IsOrder, Plan, IsAnnotation}
use Rattle.plan_verifier.specs.Accepted.{AcceptedPlan}
use Rattle.plan_verifier.specs.Verdict.{IsVerdictOn, IsVerdict}
use Rattle.plan_verifier.specs.declared.refusal.Refusal.{Refusal}
use Rattle.plan_verifier.specs.declared.refusal.Refusal.TheVariants.{Text, Unsafe, Uneven, Stuck, Memory}

-- a plan that is refused, for another cause than memory, has no annotation together with an order
abbrev pub RefusalsAreRight : Type 0
RefusalsAreRight =
    (u : Universe) (p : Plan) (refusal : Refusal) → refusal ≢ Memory → IsVerdictOn u p (Err refusal)
    → (rows : Rows) (order : List ℕ) → IsAnnotation u p rows → IsOrder u p order → ⊥

-- the two refusals tell the same; one that tells of memory alone goes with each
abbrev pub IsSameRefusal : Refusal → Refusal → Type 0
IsSameRefusal Memory other = Unit {0}
IsSameRefusal (Text fault) Memory = Unit {0}
IsSameRefusal (Text fault) (Text told) = fault ≡ told
IsSameRefusal (Text fault) other = ⊥
IsSameRefusal (Unsafe name number trap) Memory = Unit {0}
IsSameRefusal (Unsafe name number trap) (Unsafe other place cause) =
    (name.items ≡ other.items) × (number ≡ place) × (trap ≡ cause)
IsSameRefusal (Unsafe name number trap) other = ⊥
IsSameRefusal (Uneven name number) Memory = Unit {0}
IsSameRefusal (Uneven name number) (Uneven other place) =
    (name.items ≡ other.items) × (number ≡ place)
IsSameRefusal (Uneven name number) other = ⊥
IsSameRefusal (Stuck names) Memory = Unit {0}
IsSameRefusal (Stuck names) (Stuck others) = lists names.items ≡ lists others.items
IsSameRefusal (Stuck names) other = ⊥

-- one is an acceptance and the other a refusal: for want of memory alone
abbrev pub IsForMemory : Refusal → Type 0
IsForMemory Memory = Unit {0}
IsForMemory refusal = ⊥

-- both accept the same plan, at the same costs; or both refuse it alike; memory apart
abbrev pub IsSameAnswer : Result AcceptedPlan Refusal → Result AcceptedPlan Refusal → Type 0
IsSameAnswer (Ok a) (Ok b) = (a.universe ≡ b.universe) × (a.plan ≡ b.plan) × (a.costs ≡ b.costs)
IsSameAnswer (Ok a) (Err refusal) = IsForMemory refusal
IsSameAnswer (Err refusal) (Ok b) = IsForMemory refusal
IsSameAnswer (Err refusal) (Err other) = IsSameRefusal refusal other

-- two verdicts on the same texts are one answer
abbrev pub VerdictsAreOne : Type 0
VerdictsAreOne =
    (of : Result FarmPlan Fault) (one other : Result AcceptedPlan Refusal) → IsVerdict of one
    → IsVerdict of other → IsSameAnswer one other
