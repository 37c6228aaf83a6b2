-- The walk over each lane of a plan.
--
--   AreWalked                     what the walks over all lanes come to, by the lane's number
--   IsToldUnsafe                  how a hazard is told by the lane's name
--   IsFirstToldUnsafe, IsWalked   what the walks come to, by the lane's name
use Rattle.std.specs.Prelude.{◌≡◌, ℕ, ◌+◌, List, length, Result, Ok, Err}
use Rattle.std.specs.Global.{Vec}
use Rattle.farm_model.specs.Universe.{Universe}
use Rattle.plan_model.specs.Common.{Rows, Plan, lane, Hazard, Meets, Parts, IsSafeUnder, IsFirstUnsafe}
use Rattle.plan_verifier.specs.declared.refusal.Refusal.{Refusal}
use Rattle.plan_verifier.specs.declared.walk.WalkError.{WalkError}
use Rattle.plan_verifier.specs.Accepted.{AreCosts}
use Rattle.plan_verifier.specs.Walk.{place_told}

-- the first hazard of the first lane that has one is told, by the lane's number
pub record IsFirstTold (u : Universe) (p : Plan) (rows : Rows) (l : ℕ) (hazard : Hazard)
    (number : ℕ) : Type 0 where
  pub i : ℕ
  pub numbered : number ≡ place_told p l i hazard + 1
  pub first : IsFirstUnsafe u p rows l i hazard

-- each instruction is safe under the rows, and these are the costs; or the first hazard is told
abbrev pub AreWalked : Universe → Plan → Rows → Result (Vec ℕ) WalkError → Type 0
AreWalked u p rows (Ok costs) =
    IsSafeUnder u p rows × AreCosts u p rows (length p) costs.items
AreWalked u p rows (Err (WalkError.Unsafe l number trap)) =
    IsFirstTold u p rows l (Meets trap) number
AreWalked u p rows (Err (WalkError.Uneven l number)) = IsFirstTold u p rows l Parts number
AreWalked u p rows (Err WalkError.Memory) = Unit {0}

-- the lane's name stands beside the instruction and its hazard, unless memory ran out
abbrev pub IsToldUnsafe : List ℕ → ℕ → Hazard → Refusal → Type 0
IsToldUnsafe name number hazard Refusal.Memory = Unit {0}
IsToldUnsafe name number hazard (Refusal.Unsafe told n t) =
    (told.items ≡ name) × (n ≡ number) × (Meets t ≡ hazard)
IsToldUnsafe name number hazard (Refusal.Uneven told n) =
    (told.items ≡ name) × (n ≡ number) × (Parts ≡ hazard)
IsToldUnsafe name number hazard (Refusal.Text fault) = ⊥
IsToldUnsafe name number hazard (Refusal.Stuck names) = ⊥

-- under the rows, the first hazard of the first lane that has one is told by the lane's name and a
-- number from 1
pub record IsFirstToldUnsafe (u : Universe) (p : Plan) (rows : Rows) (name : List ℕ) (number : ℕ)
    (hazard : Hazard) : Type 0 where
  pub l : ℕ
  pub i : ℕ
  pub first : IsFirstUnsafe u p rows l i hazard
  pub named : name ≡ (lane p l).name
  pub numbered : number ≡ place_told p l i hazard + 1

-- each instruction is safe under the rows, and these are the costs; or the first hazard is told
abbrev pub IsWalked : Universe → Plan → Rows → Result (Vec ℕ) Refusal → Type 0
IsWalked u p rows (Ok costs) =
    IsSafeUnder u p rows × AreCosts u p rows (length p) costs.items
IsWalked u p rows (Err (Refusal.Unsafe name number trap)) =
    IsFirstToldUnsafe u p rows name.items number (Meets trap)
IsWalked u p rows (Err (Refusal.Uneven name number)) =
    IsFirstToldUnsafe u p rows name.items number Parts
IsWalked u p rows (Err Refusal.Memory) = Unit {0}
IsWalked u p rows (Err (Refusal.Text fault)) = ⊥
IsWalked u p rows (Err (Refusal.Stuck names)) = ⊥
