-- What a step of a core says, over its lanes and its archive.
--
--   IsStepped    the answer, and the lanes and the archive after it, are the definition's
use Rattle.std.specs.Prelude.{◌≡◌, ℕ, List}
use Rattle.farm_archive.specs.Kept.{Kept}
use Rattle.farm_model.specs.Universe.{Universe}
use Rattle.plan_model.specs.Common.{Plan, step}
use Rattle.farm_core.specs.Farm.{state_of, step_told, state_after, IsCore}
use Rattle.farm_core.specs.declared.answer.Step.{Step}
use Rattle.farm_core.specs.declared.lane.LaneRun.{LaneRun}

pub record IsStepped (u : Universe) (p : Plan) (l : ℕ) (lanes : List LaneRun) (kept : Kept)
    (new_lanes : List LaneRun) (new_kept : Kept) (answer : Step) : Type 0 where
  pub core : IsCore u p new_lanes new_kept
  pub is_told : answer ≡ step_told (step u p (state_of lanes kept) l)
  pub is_after : state_of new_lanes new_kept
      ≡ state_after (state_of lanes kept) (step u p (state_of lanes kept) l)
