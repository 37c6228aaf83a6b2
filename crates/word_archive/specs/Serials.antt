-- The serials that lanes draw for their outputs. The project's own rules. Parameters: a an accepted
-- plan, l a lane, r its record, v a variant, x a serial.
--
--   made_by                   how many outputs a lane has made
--   times, drawn, draws       how often a serial was drawn, and how many were
--   all_outputs, SerialsFit   the outputs of a plan; their serials fit in a word
--   IsPublishedBelow          the variant was published under a serial below x
--   IsSerials                 the serials drawn are the numbers below the serial word
use Rattle.std.specs.Prelude.{◌≡◌, ℕ, suc, ◌+◌, ◌<◌, ◌≤◌, ◌^◌, ◌==◌, nat_lt, if◌then◌else◌, true, false, List, [], ◌∷◌, length, Some, slice_get}
use Rattle.farm_model.specs.Common.{Universe, initial}
use Rattle.farm_model.specs.declared.types.Variant.{Variant}
use Rattle.plan_model.specs.Common.{Plan, lane, lane_outputs, LaneState}
use Rattle.archive_laws.specs.LaneMoves.{outputs_made, IsOutputOf}
use Rattle.archive_laws.specs.Records.{Record}
use Rattle.plan_verifier.specs.Accepted.{AcceptedPlan, known_rows}

-- how many outputs lane l has made, in this state
abbrev pub made_by : AcceptedPlan → ℕ → LaneState → ℕ
made_by a l st = outputs_made a.universe (lane a.plan l) st

-- how often x stands in the list
abbrev pub times : ℕ → List ℕ → ℕ
times x [] = 0
times x (y ∷ ys) = (if y == x then 1 else 0) + times x ys

-- how often x was drawn
abbrev pub drawn : ℕ → List Record → ℕ
drawn x [] = 0
drawn x (r ∷ rs) = times x r.serials + drawn x rs

-- how many were drawn
abbrev pub draws : List Record → ℕ
draws [] = 0
draws (r ∷ rs) = length r.serials + draws rs

abbrev pub once_below : ℕ → ℕ → ℕ
once_below x n = if nat_lt x n then 1 else 0

-- no lane drew more than it has outputs
abbrev pub AreFew : Universe → List Record → Plan → Type 0
AreFew u [] ofs = Unit {0}
AreFew u (r ∷ rs) [] = ⊥
AreFew u (r ∷ rs) (of ∷ ofs) =
    (length r.serials ≤ length (lane_outputs u of)) × AreFew u rs ofs

-- all outputs of a plan
abbrev pub all_outputs : Universe → Plan → ℕ
all_outputs u [] = 0
all_outputs u (of ∷ ofs) = length (lane_outputs u of) + all_outputs u ofs

-- their serials fit in a word
abbrev pub SerialsFit : AcceptedPlan → Type 0
SerialsFit a = all_outputs a.universe a.plan < 2 ^ 64

-- the variant is an output that some lane has made, under a serial below x
pub record IsPublishedBelow (a : AcceptedPlan) (records : List Record) (v : Variant) (x : ℕ)
    : Type 0 where
  pub publisher : ℕ
  pub place : ℕ
  pub told : Record
  pub serial : ℕ
  pub there : slice_get records publisher ≡ Some told
  pub made : place < made_by a publisher told.at
  pub output : slice_get (lane_outputs a.universe (lane a.plan publisher)) place ≡ Some v
  pub drawn_as : slice_get told.serials place ≡ Some serial
  pub below : serial < x

-- The serials drawn:
pub record IsSerials (a : AcceptedPlan) (word : ℕ) (records : List Record) : Type 0 where
  -- they are the numbers below the serial word, each drawn once,
  pub once : (x : ℕ) → drawn x records ≡ once_below x word
  pub count : draws records ≡ word
  -- and no lane has more than it has outputs;
  pub few : AreFew a.universe records a.plan
  -- each output made has its own, and at most one serial of a lane is not used;
  pub owed : (l : ℕ) (r : Record) → slice_get records l ≡ Some r
      → (made_by a l r.at ≤ length r.serials)
      × (length r.serials ≤ suc (made_by a l r.at))
  -- each is above those of the publications that are known ahead of its publish.
  pub above : (l i j x : ℕ) (r : Record) (v : Variant) → slice_get records l ≡ Some r
      → slice_get r.serials j ≡ Some x → IsOutputOf a.universe (lane a.plan l) i j
      → known_rows a l i v ≡ true → initial a.universe v ≡ false → IsPublishedBelow a records v x
