-- Which instructions of a plan are safe. The project's own rules.
--
--   Hazard, hazard_at         what is unsafe at a place: the first trap that its instruction may
--                             meet, or branches that leave a name in different phases
--   IsSafeUnder               nothing is, at any place
--   IsFirstUnsafe             the instruction at which a plan is refused
--   IsAnnotation              rows under which the plan is safe
use Rattle.std.specs.Prelude.{◌≡◌, ℕ, ◌<◌, Bool, true, false, length, Option, Some, None}
use Rattle.farm_model.specs.Universe.{Universe}
use Rattle.farm_model.specs.declared.types.Trap.{Trap}
use Rattle.plan_model.specs.declared.instructions.Instruction.{Instruction}
use Rattle.plan_model.specs.declared.instructions.Instruction.TheVariants.{EndWhen}
use Rattle.plan_model.specs.Plan.{Plan, lane, instruction_at}
use Rattle.plan_model.specs.Known.{Rows, possible, KeepsRows}
use Rattle.plan_model.specs.Risk.{risk}
use Rattle.plan_model.specs.Join.{phases_differ}
use Rattle.plan_model.specs.MayAt.{Maps, maps_at, may_at}

-- the first trap that the instruction there may meet, if there is one
abbrev pub risk_of : Universe → Plan → Rows → ℕ → ℕ → Option Instruction → Option Trap
risk_of u p rows l i None = None
risk_of u p rows l i (Some x) =
    risk u (lane p l) (rows l i) (possible u p l i) (may_at u p rows l i) x

-- the first trap that lane l's instruction at place i may meet; none past its end
unfoldable pub risk_at : Universe → Plan → Rows → ℕ → ℕ → Option Trap
risk_at u p rows l i = risk_of u p rows l i (instruction_at p l i)

-- what is unsafe at an instruction: a trap that it may meet, or an `end` whose branches leave some
-- name in different phases
pub data Hazard : Type 0 where
  Meets : (trap : Trap) → Hazard
  Parts : Hazard

-- the instruction is an `end`, and its branches leave some name in different phases
abbrev pub parts_of : Universe → Maps → Option Instruction → Bool
parts_of u m (Some EndWhen) = phases_differ u m.first m.here
parts_of u m _ = false

-- a trap, or else branches that part
abbrev pub hazard_of : Option Trap → Bool → Option Hazard
hazard_of (Some trap) part = Some (Meets trap)
hazard_of None true = Some Parts
hazard_of None false = None

-- what is unsafe at lane l's instruction at place i
unfoldable pub hazard_at : Universe → Plan → Rows → ℕ → ℕ → Option Hazard
hazard_at u p rows l i = hazard_of (risk_at u p rows l i)
    (parts_of u (maps_at u p rows l i) (instruction_at p l i))

-- each instruction of each lane is safe
abbrev pub IsSafeUnder : Universe → Plan → Rows → Type 0
IsSafeUnder u p rows = (l i : ℕ) → l < length p → hazard_at u p rows l i ≡ None

-- the first unsafe instruction of the first lane that has one
pub record IsFirstUnsafe (u : Universe) (p : Plan) (rows : Rows) (l i : ℕ)
    (hazard : Hazard) : Type 0 where
  pub in_plan : l < length p
  pub here : hazard_at u p rows l i ≡ Some hazard
  pub before : (k : ℕ) → k < i → hazard_at u p rows l k ≡ None
  pub lanes_before : (j k : ℕ) → j < l → hazard_at u p rows j k ≡ None

-- an annotation: rows that keep to the inclusions, under which each instruction is safe
pub record IsAnnotation (u : Universe) (p : Plan) (rows : Rows) : Type 0 where
  pub keeps : KeepsRows u p rows
  pub safe : IsSafeUnder u p rows
