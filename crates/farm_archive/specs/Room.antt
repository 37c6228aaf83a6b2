-- How many variants a plan publishes.
--
--   outputs_in p      the outputs of all its publishes
use Rattle.std.specs.Prelude.{ℕ, length}
use Rattle.farm_model.specs.Common.{sum_below, Universe}
use Rattle.plan_model.specs.Plan.{Plan, lane, lane_outputs}

unfoldable pub outputs_in : Universe → Plan → ℕ
outputs_in u p = sum_below (length p) (λ l. length (lane_outputs u (lane p l)))
