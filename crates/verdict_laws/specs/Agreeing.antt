-- Two families of rows that have the same at each place of a plan. The project's own rules.
-- Parameters as in Places.
--
--   Agree                      they have the same at the plan's places
--   AgreeingRowsAreAlike       what they have in common then
use Rattle.std.specs.Prelude.{◌≡◌, ◌↔◌, ℕ, ◌<◌, ◌≤◌, length}
use Rattle.farm_model.specs.Universe.{Universe}
use Rattle.farm_model.specs.declared.types.Variant.{Variant}
use Rattle.plan_model.specs.Common.{Plan, lane, Rows, lane_cost, hazard_at}
use Rattle.verdict_laws.specs.Places.{IsJustified}

-- the same variants at each place of the plan
abbrev pub Agree : Plan → Rows → Rows → Type 0
Agree p rows other =
    (l i : ℕ) (v : Variant) → l < length p → i ≤ length (lane p l).instructions
    → rows l i v ≡ other l i v

-- What rows that agree have in common:
pub record AreAlike (u : Universe) (p : Plan) (rows other : Rows) : Type 0 where
  -- their rows are justified at the same places of the lanes;
  pub justified : (l i : ℕ) → l < length p → IsJustified u p rows l i ↔ IsJustified u p other l i
  -- the same is unsafe at each instruction under them;
  pub hazards : (l i : ℕ) → l < length p → hazard_at u p rows l i ≡ hazard_at u p other l i
  -- and each lane has the same cost.
  pub costs : (l : ℕ) → l < length p → lane_cost u p rows l ≡ lane_cost u p other l

abbrev pub AgreeingRowsAreAlike : Type 0
AgreeingRowsAreAlike =
    (u : Universe) (p : Plan) (rows other : Rows) → Agree p rows other → AreAlike u p rows other
