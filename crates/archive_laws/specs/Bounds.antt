-- What holds of a lane's record, and of the words that it loads. The project's own rules.
-- Parameters: u a universe, p a plan, rows what its lanes know, l a lane, st its state after its
-- last archive step, n a name, found its word as loaded.
--
--   IsWithinBits               bits that are in another word
--   IsRecord                   what holds of each record
--   IsLoaded, IsInBounds       a word that a lane loads at its next archive step; its bounds
use Rattle.std.specs.Prelude.{◌≡◌, ◌⊎◌, ℕ, suc, ◌<◌, ◌≤◌, true, length, slice_index}
use Rattle.std.specs.Int.{bit_at}
use Rattle.farm_model.specs.Common.{Universe, variant, word_has}
use Rattle.farm_laws.specs.EventsLeft.{InPlace}
use Rattle.plan_model.specs.Common.{Rows, possible, publishing, Plan, lane, lane_outputs, LaneState, World, world_lane}
use Rattle.archive_laws.specs.LaneMoves.{outputs_made}
use Rattle.archive_laws.specs.Shown.{IsReached}
use Rattle.archive_laws.specs.Records.{Record, ready_in, next_of}

-- the bits of the one word are in the other
abbrev pub IsWithinBits : ℕ → ℕ → Type 0
IsWithinBits x y = (k : ℕ) → bit_at x k ≡ 1 → bit_at y k ≡ 1

-- Of a lane's record:
pub record IsRecord (u : Universe) (p : Plan) (l : ℕ) (r : Record) : Type 0 where
  -- it is a lane of the plan, and stands at a place of it;
  pub in_plan : l < length p
  pub place : InPlace u (lane p l).instructions r.at.done r.at.made
  -- it has drawn a serial for each output that it made, and perhaps one more,
  pub made : outputs_made u (lane p l) r.at ≤ length r.serials
  pub one : length r.serials ≤ suc (outputs_made u (lane p l) r.at)
  -- and no more than it has outputs.
  pub few : length r.serials ≤ length (lane_outputs u (lane p l))

-- The word stands in a world that is reached, in which the lane is at its next archive step.
pub record IsLoaded (u : Universe) (p : Plan) (l : ℕ) (st : LaneState) (n found : ℕ)
    : Type 0 where
  pub world : World
  pub reached : IsReached u p world
  pub stands : world_lane world l ≡ ready_in u p l st
  pub word : slice_index world.words n ≡ found

-- The word of a name, at a lane's next archive step:
pub record IsInBounds (u : Universe) (p : Plan) (rows : Rows) (l : ℕ) (st : LaneState)
    (n found : ℕ) : Type 0 where
  -- it has what the lane knows there,
  pub known : (b : ℕ) → rows l (ready_in u p l st).done (variant n b) ≡ true
      → word_has found b ≡ true
  -- and nothing outside what is possible there and the outputs made of a publish that the lane
  -- stands at.
  pub bounded : (b : ℕ) → word_has found b ≡ true
      → (possible u p l (ready_in u p l st).done (variant n b) ≡ true)
      ⊎ (publishing u (next_of u p l st) (ready_in u p l st).made (variant n b) ≡ true)
