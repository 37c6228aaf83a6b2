-- The outputs of a plan's lanes, as a value of the program. The project's own words. Parameters: u
-- a universe, p a plan, lanes the outputs of each lane, lists their places by name.
--
--   PlanOutputs     the universe and the plan that they are about
--   AreTotals       as a point would have them that knows all outputs
--   AreOutputsOfPlan  what is kept of them
use Rattle.std.specs.Prelude.{◌≡◌, ℕ, ◌<◌, List, [], ◌∷◌, length}
use Rattle.farm_model.specs.Common.{Universe, names}
use Rattle.plan_model.specs.Common.{Plan, lane, lane_outputs, IsSound}
use Rattle.known_rows.specs.declared.by_name.OutputPlace.{OutputPlace}
use Rattle.known_rows.specs.declared.marks.LaneOutputs.{LaneOutputs}
use Rattle.known_rows.specs.ByName.{AreListedByName}
use Rattle.known_rows.specs.Columns.{column_of}
use Rattle.known_rows.specs.Marks.{AreLanes, HavePast}

pub record PlanOutputs : Type 0 where
  pub universe : Universe
  pub plan : Plan

-- of each lane below n one count: of all its outputs
pub record AreTotals (u : Universe) (p : Plan) (n : ℕ) (totals : List (List ℕ)) : Type 0 where
  pub long : length totals ≡ n
  pub each : (j : ℕ) → j < n → column_of totals j ≡ length (lane_outputs u (lane p j)) ∷ []

pub record AreOutputsOfPlan (u : Universe) (p : Plan) (lanes : List LaneOutputs)
    (lists : List (List OutputPlace)) (totals : List (List ℕ)) : Type 0 where
  pub sound : IsSound u p
  pub are : AreLanes u p lanes
  pub past : HavePast u p lanes
  pub named : length lists ≡ names u
  pub listed : AreListedByName lists lanes (length lanes)
  pub in_all : AreTotals u p (length p) totals
