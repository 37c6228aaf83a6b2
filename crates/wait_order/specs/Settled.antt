-- Where the lanes stand once none of them goes on. The project's own words. Parameters: u a
-- universe, p a plan, order the lanes whose waits and outputs were made, ats where the lanes stand.
--
--   IsSettled        the list leads to these places, and there each lane waits or has ended
use Rattle.std.specs.Prelude.{ℕ, ◌<◌, List, length}
use Rattle.farm_model.specs.Universe.{Universe}
use Rattle.plan_model.specs.Plan.{Plan}
use Rattle.wait_order.specs.declared.standing.Standing.{Standing}
use Rattle.wait_order.specs.Standing.{IsReached, IsHeldAt, place_of, left_of}

pub record IsSettled (u : Universe) (p : Plan) (order : List ℕ) (ats : List Standing) : Type 0 where
  -- the row of the archive then
  pub there : List ℕ
  pub reached : IsReached u p order there (left_of u p ats)
  pub held : (l : ℕ) → l < length p → IsHeldAt u p l (place_of ats l) there
