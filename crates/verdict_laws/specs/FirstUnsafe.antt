-- The place at which a plan is refused is one, and there is one where the plan is not safe. The
-- project's own rules.
use Rattle.std.specs.Prelude.{◌≡◌, ◌⊎◌, ℕ}
use Rattle.farm_model.specs.Universe.{Universe}
use Rattle.plan_model.specs.Common.{Plan, Rows, IsSafeUnder, Hazard, IsFirstUnsafe}

-- two instructions that are the first unsafe one are the same lane, place and hazard
abbrev pub FirstUnsafeIsOne : Type 0
FirstUnsafeIsOne =
    (u : Universe) (p : Plan) (rows : Rows) (l i k j : ℕ) (hazard other : Hazard)
    → IsFirstUnsafe u p rows l i hazard → IsFirstUnsafe u p rows k j other → (l ≡ k) × (i ≡ j)
    × (hazard ≡ other)

-- an instruction that is the first unsafe one
pub record FirstUnsafe (u : Universe) (p : Plan) (rows : Rows) : Type 0 where
  pub lane : ℕ
  pub place : ℕ
  pub hazard : Hazard
  pub is : IsFirstUnsafe u p rows lane place hazard

-- each instruction is safe, or there is a first unsafe one
abbrev pub SafeOrFirstUnsafe : Type 0
SafeOrFirstUnsafe =
    (u : Universe) (p : Plan) (rows : Rows) → IsSafeUnder u p rows ⊎ FirstUnsafe u p rows
