-- The history of a closed archive: the outputs that the lanes have made, by their serials. The
-- project's own rules. Parameters: a an accepted plan, l a lane, h a publication.
--
--   first_published, lanes_published     what the lanes have published, lane by lane
--   IsMadeOutput, HasOutput, IsHistory   the history that the records tell
--   IsClosed                             what is told of an archive that is closed
use Rattle.word_archive.specs.Serials.{made_by}
use Rattle.std.specs.Prelude.{◌≡◌, ◌↔◌, ◌⊎◌, ℕ, zero, suc, ◌<◌, Bool, true, false, List, [], ◌∷◌, ◌++◌, Option, None, Some, slice_get, length, slice_index, slice_index_or}
use Rattle.farm_archive.specs.declared.publication.Publication.{Publication}
use Rattle.farm_model.specs.Packages.{variant, initial, has_bit}
use Rattle.farm_model.specs.declared.types.Variant.{Variant}
use Rattle.plan_model.specs.Plan.{lane, lane_outputs}
use Rattle.archive_laws.specs.LaneMoves.{IsOutputOf}
use Rattle.archive_laws.specs.Records.{Record}
use Rattle.plan_verifier.specs.Accepted.{AcceptedPlan, known_rows}
use Rattle.word_archive.specs.Rule.{AreWordsOf, HasHalted, serial_word, shown_world}

abbrev pub entry : ℕ → ℕ → Variant → Publication
entry serial l v = record { serial = serial; lane = l; variant = v }

-- the first m outputs of a lane, each with its serial
abbrev pub first_published : ℕ → List Variant → List ℕ → ℕ → List Publication
first_published l outs serials zero = []
first_published l outs serials (suc m) =
    first_published l outs serials m
    ++ entry (slice_index serials m) l (slice_index_or outs m (variant 0 0)) ∷ []

-- the outputs that a lane has made, where its seat is in
abbrev pub lane_published : AcceptedPlan → ℕ → Option (Option Record) → List Publication
lane_published a l (Some (Some r)) =
    first_published l (lane_outputs a.universe (lane a.plan l)) r.serials
    (made_by a l r.at)
lane_published a l (Some None) = []
lane_published a l None = []

-- those of the first lanes
abbrev pub lanes_published : AcceptedPlan → List (Option Record) → ℕ → List Publication
lanes_published a logs zero = []
lanes_published a logs (suc l) = lanes_published a logs l ++ lane_published a l (slice_get logs l)

-- the publication is an output that its lane has made, under the serial that the lane drew for it
pub record IsMadeOutput (a : AcceptedPlan) (records : List Record) (h : Publication) : Type 0 where
  pub told : Record
  pub place : ℕ
  pub there : slice_get records h.lane ≡ Some told
  pub made : place < made_by a h.lane told.at
  pub drawn_as : slice_get told.serials place ≡ Some h.serial
  pub output : slice_get (lane_outputs a.universe (lane a.plan h.lane)) place ≡ Some h.variant

-- the history has output i of the lane
pub record HasOutput (a : AcceptedPlan) (history : List Publication) (l i : ℕ) (r : Record)
    : Type 0 where
  pub serial : ℕ
  pub output : Variant
  pub number : ℕ
  pub stands : slice_get history number ≡ Some (entry serial l output)
  pub drawn_as : slice_get r.serials i ≡ Some serial
  pub variant : slice_get (lane_outputs a.universe (lane a.plan l)) i ≡ Some output

-- The history has exactly the outputs that the lanes have made, and its serials rise.
pub record IsHistory (a : AcceptedPlan) (records : List Record) (history : List Publication)
    : Type 0 where
  pub each : (k : ℕ) (h : Publication) → slice_get history k ≡ Some h → IsMadeOutput a records h
  pub all : (l i : ℕ) (r : Record) → slice_get records l ≡ Some r
      → i < made_by a l r.at → HasOutput a history l i r
  pub rises : (j k : ℕ) (g h : Publication) → j < k → slice_get history j ≡ Some g
      → slice_get history k ≡ Some h → g.serial < h.serial

-- the history has a publication of which this holds
abbrev pub HasOne : List Publication → (Publication → Type 0) → Type 0
HasOne history P = (k : ℕ) × (h : Publication) × (slice_get history k ≡ Some h) × P h

-- a lane has drawn this serial last, and has not used it
abbrev pub IsUnused : AcceptedPlan → List Record → ℕ → Type 0
IsUnused a records x =
    (l : ℕ) × (r : Record) × (slice_get records l ≡ Some r)
    × (length r.serials ≡ suc (made_by a l r.at))
    × (slice_get r.serials (made_by a l r.at) ≡ Some x)

-- Of an archive that is closed, with the records that were given back:
pub record IsClosed (a : AcceptedPlan) (words : List ℕ) (records : List Record) (stopped : Bool)
    (history : List Publication) : Type 0 where
  -- the words are those of the records, and so show with them a reachable state;
  pub stands : AreWordsOf a words records stopped
  -- the history has the outputs that the lanes have made, by serial;
  pub told : IsHistory a records history
  -- the words have the initial archive and what the history has;
  pub words_are : (v : Variant) → (has_bit (shown_world a words records).words v ≡ true)
      ↔ ((initial a.universe v ≡ true) ⊎ HasOne history (λ h. h.variant ≡ v))
  -- a serial is above those of the publications that are known ahead of its publish;
  pub above : (k i : ℕ) (h : Publication) (o : IsMadeOutput a records h) (v : Variant)
      → slice_get history k ≡ Some h → IsOutputOf a.universe (lane a.plan h.lane) i o.place
      → known_rows a h.lane i v ≡ true → initial a.universe v ≡ false
      → HasOne history (λ g. (g.variant ≡ v) × (g.serial < h.serial))
  -- each serial is below the serial word, and below it one is missing only where a lane has drawn
  -- it and not used it;
  pub below : (k : ℕ) (h : Publication) → slice_get history k ≡ Some h
      → h.serial < serial_word a words
  pub missing : (x : ℕ) → x < serial_word a words
      → HasOne history (λ h. h.serial ≡ x) ⊎ IsUnused a records x
  -- and a lane was told of a halt only where some seat has halted.
  pub halts : (l : ℕ) (r : Record) → slice_get records l ≡ Some r → r.saw ≡ true
      → (stopped ≡ true) ⊎ HasHalted records
