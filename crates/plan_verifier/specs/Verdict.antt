-- The verdict on four texts. The project's own rules.
--
--   IsRefused, AreStuckLanes    why a plan that can be read is refused
--   IsVerdictOn                 the verdict on a universe and a plan
--   IsVerdict                   the verdict on four texts
use Rattle.std.specs.Prelude.{◌≡◌, ◌≢◌, ℕ, ◌+◌, List, [], map, Result, Ok, Err}
use Rattle.deb_text.specs.Lists.{lists}
use Rattle.deb_text.specs.declared.fault.Fault.{Fault}
use Rattle.farm_model.specs.Universe.{Universe}
use Rattle.plan_model.specs.Common.{Rows, IsGreatest, AreStuck, Plan, lane, Hazard, Meets, Parts, IsSafeUnder, IsFirstUnsafe}
use Rattle.plan_verifier.specs.declared.refusal.Refusal.{Refusal}
use Rattle.plan_verifier.specs.declared.refusal.Refusal.TheVariants.{Text, Unsafe, Uneven, Stuck, Memory}
use Rattle.plan_verifier.specs.Accepted.{AcceptedPlan, IsAccepted}
use Rattle.plan_verifier.specs.Walk.{place_told}
use Rattle.plan_reader.specs.Planned.{FarmPlan}

-- Under the greatest known rows, this hazard is the first one of the first lane that has one: a
-- trap of the instruction of this number, from 1, or branches that part of the `when` of this
-- number. The lane has this name.
pub record IsRefused (u : Universe) (p : Plan) (name : List ℕ) (number : ℕ) (hazard : Hazard)
    : Type 0 where
  pub rows : Rows
  pub greatest : IsGreatest u p rows
  pub l : ℕ
  pub i : ℕ
  pub first : IsFirstUnsafe u p rows l i hazard
  pub named : name ≡ (lane p l).name
  pub numbered : number ≡ place_told p l i hazard + 1

-- Under the greatest known rows each instruction is safe, and the lanes of these names, in file
-- order, are those that no list of waits and outputs brings past their last one; there are some.
pub record AreStuckLanes (u : Universe) (p : Plan) (names : List (List ℕ)) : Type 0 where
  pub rows : Rows
  pub greatest : IsGreatest u p rows
  pub safe : IsSafeUnder u p rows
  pub lanes : List ℕ
  pub stuck : AreStuck u p lanes
  pub some : lanes ≢ []
  pub named : names ≡ map (λ l. (lane p l).name) lanes

abbrev pub IsVerdictOn : Universe → Plan → Result AcceptedPlan Refusal → Type 0
IsVerdictOn u p (Ok a) = (a.universe ≡ u) × (a.plan ≡ p) × IsAccepted a
IsVerdictOn u p (Err (Text fault)) = ⊥
IsVerdictOn u p (Err (Unsafe name number trap)) = IsRefused u p name.items number (Meets trap)
IsVerdictOn u p (Err (Uneven name number)) = IsRefused u p name.items number Parts
IsVerdictOn u p (Err (Stuck names)) = AreStuckLanes u p (lists names.items)
IsVerdictOn u p (Err Memory) = Unit {0}

-- the first fault of the texts is told as it is; else the verdict is on what they stand for. Memory
-- may run out
abbrev pub IsVerdict : Result FarmPlan Fault → Result AcceptedPlan Refusal → Type 0
IsVerdict (Ok of) verdict = IsVerdictOn of.universe of.plan verdict
IsVerdict (Err fault) (Ok a) = ⊥
IsVerdict (Err fault) (Err (Text told)) = told ≡ fault
IsVerdict (Err fault) (Err (Unsafe name number trap)) = ⊥
IsVerdict (Err fault) (Err (Uneven name number)) = ⊥
IsVerdict (Err fault) (Err (Stuck names)) = ⊥
IsVerdict (Err fault) (Err Memory) = Unit {0}
