-- The publications of a run, by serial. Parameters: a the accepted plan, history the publications,
-- l a lane, i the number of an output among all that the lane makes, in its order.
--
--   IsOutputNumber       the output of this number
--   IsNumbered           the serials of a history of which all outputs were made
--   HasPublished         what a state has published
use Rattle.std.specs.Prelude.{◌≡◌, ℕ, ◌<◌, true, false, List, Some, slice_get}
use Rattle.archive_laws.specs.LaneMoves.{IsOutputOf}
use Rattle.farm_archive.specs.declared.publication.Publication.{Publication}
use Rattle.farm_model.specs.Packages.{initial}
use Rattle.farm_model.specs.declared.types.Variant.{Variant}
use Rattle.plan_model.specs.Common.{lane, lane_outputs, State, publication}
use Rattle.plan_verifier.specs.Accepted.{AcceptedPlan, known_rows}
use Rattle.word_archive.specs.History.{HasOne, entry}

-- output i of lane l is this variant
abbrev pub IsOutputNumber : AcceptedPlan → ℕ → ℕ → Variant → Type 0
IsOutputNumber a l i v = slice_get (lane_outputs a.universe (lane a.plan l)) i ≡ Some v

-- What serials say of the publications:
pub record IsNumbered (a : AcceptedPlan) (history : List Publication) : Type 0 where
  -- each output of each lane has one;
  pub serial : ℕ → ℕ → ℕ
  -- publication k has serial k, and is the output of its lane that has this serial;
  pub each : (k : ℕ) (h : Publication) → slice_get history k ≡ Some h
      → (h.serial ≡ k) × (i : ℕ) × IsOutputNumber a h.lane i h.variant × (serial h.lane i ≡ k)
  -- each output of each lane stands under its serial;
  pub all : (l i : ℕ) (v : Variant) → IsOutputNumber a l i v
      → slice_get history (serial l i) ≡ Some (entry (serial l i) l v)
  -- along a lane the serials rise;
  pub rises : (l i j : ℕ) (v w : Variant) → i < j → IsOutputNumber a l i v
      → IsOutputNumber a l j w → serial l i < serial l j
  -- and what a lane knows at the place of a publish, and is not initial, was published under a
  -- smaller serial than each output of that publish.
  pub above : (l place i : ℕ) (v known : Variant) → IsOutputNumber a l i v
      → IsOutputOf a.universe (lane a.plan l) place i → known_rows a l place known ≡ true
      → initial a.universe known ≡ false
      → HasOne history (λ h. (h.variant ≡ known) × (h.serial < serial l i))

-- lane l has published the variant
abbrev pub HasPublished : State → ℕ → Variant → Type 0
HasPublished s l v = (k : ℕ) × (slice_get s.published k ≡ Some (publication l v))
