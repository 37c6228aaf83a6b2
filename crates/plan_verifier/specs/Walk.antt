-- A walk over the instructions of a lane. Parameters: u a universe, p a plan, rows what its lanes
-- know, l a lane. The project's own rules.
--
--   place_told, IsTold  where a hazard is told
--   IsAdvanced          what is answered to an instruction
--   WalkedTo, Walked    what is answered to the instructions ahead of a place, and to a lane
use Rattle.std.specs.Prelude.{◌≡◌, ℕ, suc, ◌+◌, ◌<◌, Bool, true, false, Some, None, Result, Ok, Err}
use Rattle.farm_model.specs.Universe.{Universe}
use Rattle.plan_model.specs.Common.{side_at, home, Plan, lane, Rows, lane_cost, Hazard, Meets, Parts, hazard_at}
use Rattle.plan_model.specs.declared.instructions.Instruction.{Instruction}
use Rattle.plan_model.specs.declared.instructions.Instruction.TheVariants.{When, Otherwise, EndWhen}
use Rattle.plan_verifier.specs.Branch.{IsAt}
use Rattle.plan_verifier.specs.declared.branch.LaneMay.{LaneMay}
use Rattle.plan_verifier.specs.declared.walk.WalkError.{WalkError}
use Rattle.plan_verifier.specs.declared.walk.WalkError.TheVariants.{Unsafe, Uneven, Memory}

-- where a hazard is told: a trap at its instruction, branches that part at their `when`
abbrev pub place_told : Plan → ℕ → ℕ → Hazard → ℕ
place_told p l i (Meets trap) = i
place_told p l i Parts = home (side_at (lane p l).instructions i) i

-- the first hazard of the lane is at place i, and is told by this lane and the number, from 1
pub record IsTold (u : Universe) (p : Plan) (rows : Rows) (l : ℕ) (hazard : Hazard)
    (told number : ℕ) : Type 0 where
  pub i : ℕ
  pub lane : told ≡ l
  pub numbered : number ≡ place_told p l i hazard + 1
  pub here : hazard_at u p rows l i ≡ Some hazard
  pub before : (k : ℕ) → k < i → hazard_at u p rows l k ≡ None

-- the instruction neither begins nor ends a branch
abbrev pub is_plain : Instruction → Bool
is_plain (When name wanted) = false
is_plain Otherwise = false
is_plain EndWhen = false
is_plain _ = true

-- the hazard of place i is told
pub record IsToldHere (u : Universe) (p : Plan) (rows : Rows) (l i : ℕ) (hazard : Hazard)
    (told number : ℕ) : Type 0 where
  pub lane : told ≡ l
  pub numbered : number ≡ place_told p l i hazard + 1
  pub here : hazard_at u p rows l i ≡ Some hazard

-- the instruction at place i is safe, and this is what may be held behind it; or its hazard is told
abbrev pub IsAdvanced : Universe → Plan → Rows → (l i : ℕ) → LaneMay → Result (Unit {0}) WalkError
    → Type 0
IsAdvanced u p rows l i next (Ok done) =
    (hazard_at u p rows l i ≡ None) × IsAt u p rows l (suc i) next
IsAdvanced u p rows l i next (Err (Unsafe told number trap)) =
    IsToldHere u p rows l i (Meets trap) told number
IsAdvanced u p rows l i next (Err (Uneven told number)) =
    IsToldHere u p rows l i Parts told number
IsAdvanced u p rows l i next (Err Memory) = Unit {0}

-- each instruction ahead of place i is safe, and this is what may be held there; or the lane's
-- first hazard is told
abbrev pub WalkedTo : Universe → Plan → Rows → (l i : ℕ) → Result LaneMay WalkError → Type 0
WalkedTo u p rows l i (Ok may) =
    ((k : ℕ) → k < i → hazard_at u p rows l k ≡ None) × IsAt u p rows l i may
WalkedTo u p rows l i (Err (Unsafe told number trap)) =
    IsTold u p rows l (Meets trap) told number
WalkedTo u p rows l i (Err (Uneven told number)) = IsTold u p rows l Parts told number
WalkedTo u p rows l i (Err Memory) = Unit {0}

-- each instruction of the lane is safe, and this is its cost; or the lane's first hazard is told
abbrev pub Walked : Universe → Plan → Rows → ℕ → Result ℕ WalkError → Type 0
Walked u p rows l (Ok cost) =
    ((i : ℕ) → hazard_at u p rows l i ≡ None) × (cost ≡ lane_cost u p rows l)
Walked u p rows l (Err (Unsafe told number trap)) = IsTold u p rows l (Meets trap) told number
Walked u p rows l (Err (Uneven told number)) = IsTold u p rows l Parts told number
Walked u p rows l (Err Memory) = Unit {0}
