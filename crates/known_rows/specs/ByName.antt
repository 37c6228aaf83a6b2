-- The outputs of the lanes, listed by name, and the first output of each lane that a row has.
-- Parameters: lanes the outputs of each lane, l a lane, n the number of an output there, o the
-- output, lists the places of outputs by name.
--
--   IsOutput, AreKnownLanes    output n of lane l; each is of the universe
--   IsListedByName, AreListedByName  a place under a name; each output under its name
--   AreHits, IsEarliest        numbers, for each lane one, of outputs that the row has, of each
--   name
--                              none later than the first
--   AreMoved                   such numbers after more outputs were looked at
use Rattle.std.specs.Prelude.{◌≡◌, ℕ, ◌<◌, ◌≤◌, Bool, true, List, [], ◌∷◌, ◌++◌, length, Some, slice_get, slice_index, slice_index_or, slice_set}
use Rattle.bit_rows.specs.Sets.{variants_of}
use Rattle.farm_model.specs.Universe.{Universe}
use Rattle.known_rows.specs.declared.by_name.OutputPlace.{OutputPlace}
use Rattle.known_rows.specs.declared.marks.LaneOutputs.{LaneOutputs}
use Rattle.known_rows.specs.declared.marks.Output.{Output}
use Rattle.known_rows.specs.Hits.{AreKnownOutputs, IsFirst}

-- output n of lane l
pub record IsOutput (lanes : List LaneOutputs) (l n : ℕ) (o : Output) : Type 0 where
  pub of : LaneOutputs
  pub lane : slice_get lanes l ≡ Some of
  pub output : slice_get of.outputs.items n ≡ Some o

abbrev pub AreKnownLanes : Universe → List LaneOutputs → Type 0
AreKnownLanes u lanes =
    (l : ℕ) (of : LaneOutputs) → slice_get lanes l ≡ Some of → AreKnownOutputs u of.outputs.items

abbrev pub place : ℕ → ℕ → OutputPlace
place l n = record { lane = l; number = n }

-- the place stands in the list
abbrev pub IsAmongPlaces : List OutputPlace → OutputPlace → Type 0
IsAmongPlaces list at = (k : ℕ) × (slice_get list k ≡ Some at)

-- the place is listed under the name
abbrev pub IsListedByName : List (List OutputPlace) → ℕ → OutputPlace → Type 0
IsListedByName lists name at = IsAmongPlaces (slice_index_or lists name []) at

-- one more place under a name
abbrev pub with_place_listed : List (List OutputPlace) → ℕ → OutputPlace → List (List OutputPlace)
with_place_listed lists name at = slice_set lists name (slice_index_or lists name [] ++ at ∷ [])

-- what was listed still is
pub record KeepsListed (old new : List (List OutputPlace)) : Type 0 where
  pub long : length new ≡ length old
  pub kept : (name : ℕ) (at : OutputPlace) → IsListedByName old name at → IsListedByName new name at

-- the first k outputs of lane l are listed under their names
abbrev pub AreLaneListed : List (List OutputPlace) → ℕ → List Output → ℕ → Type 0
AreLaneListed lists l outs k =
    (n : ℕ) (o : Output) → n < k → slice_get outs n ≡ Some o
    → IsListedByName lists o.variant.name (place l n)

-- each output of the first k lanes is listed under its name
abbrev pub AreListedByName : List (List OutputPlace) → List LaneOutputs → ℕ → Type 0
AreListedByName lists lanes k =
    (l : ℕ) (of : LaneOutputs) → l < k → slice_get lanes l ≡ Some of
    → AreLaneListed lists l of.outputs.items (length of.outputs.items)

abbrev pub has : List ℕ → Output → Bool
has row o = variants_of row o.variant.name o.variant.bit

-- each number that is one of an output of its lane is that of an output that the row has
abbrev pub AreHits : List ℕ → List LaneOutputs → List ℕ → Type 0
AreHits row lanes firsts =
    (l : ℕ) (o : Output) → IsOutput lanes l (slice_index firsts l) o → has row o ≡ true

-- no output of this name that the row has comes before the number of its lane
abbrev pub IsEarliest : List ℕ → List LaneOutputs → List ℕ → ℕ → Type 0
IsEarliest row lanes firsts name =
    (l n : ℕ) (o : Output) → IsOutput lanes l n o → o.variant.name ≡ name → has row o ≡ true
    → slice_index firsts l ≤ n

-- no number is later than before
pub record AreMoved (row : List ℕ) (lanes : List LaneOutputs) (old new : List ℕ) : Type 0 where
  pub long : length new ≡ length old
  pub hits : AreHits row lanes old → AreHits row lanes new
  pub earlier : (l : ℕ) → slice_index new l ≤ slice_index old l

-- for each lane the number of its first output that the row has, or of none where it has none
pub record AreFirsts (row : List ℕ) (lanes : List LaneOutputs) (firsts : List ℕ) : Type 0 where
  pub long : length firsts ≡ length lanes
  pub each : (l : ℕ) (of : LaneOutputs) → slice_get lanes l ≡ Some of
      → IsFirst row of.outputs.items (slice_index firsts l)
