-- Where what is in an archive may come from: the initial archive, and the publishes of each lane.
-- The project's own words. Parameters: u a universe, p a plan, l a lane, i a place.
--
--   HasPublishes      the places at which a lane publishes are among these
--   ArePublishes      they are, lane by lane
--   AreOrigins        the initial archive and the publishes of a plan
use Rattle.std.specs.Prelude.{◌≡◌, ℕ, ◌<◌, true, List, length, All, Some, slice_get}
use Rattle.farm_model.specs.Common.{member, initial, Universe}
use Rattle.plan_model.specs.Plan.{Plan, lane, instruction_at}
use Rattle.plan_model.specs.declared.instructions.Instruction.TheVariants.{Publish}
use Rattle.plan_cert.specs.declared.origins.LanePublishes.{LanePublishes}
use Rattle.plan_cert.specs.declared.origins.Origins.{Origins}
use Rattle.sat_rows.specs.Rows.{IsRowOf}

-- of the first so many instructions of the lane
abbrev pub HasPublishes : Plan → (l count : ℕ) → List ℕ → Type 0
HasPublishes p l count places =
    (i r : ℕ) → i < count → instruction_at p l i ≡ Some (Publish r) → member places i ≡ true

pub record AreLanePublishes (p : Plan) (l : ℕ) (places : List ℕ) : Type 0 where
  pub inside : All (λ i. i < length (lane p l).instructions) places
  pub has : HasPublishes p l (length (lane p l).instructions) places

pub record ArePublishes (p : Plan) (lanes : List LanePublishes) : Type 0 where
  pub long : length lanes ≡ length p
  pub each : (l : ℕ) (of : LanePublishes) → slice_get lanes l ≡ Some of
      → AreLanePublishes p l of.places.items

pub record AreOrigins (u : Universe) (p : Plan) (origins : Origins) : Type 0 where
  pub archive : IsRowOf u (initial u) origins.archive
  pub publishes : ArePublishes p origins.publishes.items
