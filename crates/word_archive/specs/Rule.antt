-- The rule of the shared archive: what its words and the views of its seats keep, whenever no step
-- is in progress. The project's own rules. Parameters: a an accepted plan, l a lane, r its record.
--
--   IsHalted                  the halt word is set exactly where some seat has halted
--   AreWordsOf                the words are those of these records: they show a reachable state
--   Entries, Fits             the records that stand in a view
--   HasLane, StandsIn         a lane's record stands in a view, and in that of a seat
--   Keeps, KeepsRule          the rule
use Rattle.std.specs.Prelude.{◌≡◌, ◌≢◌, ◌↔◌, ◌⊎◌, ℕ, ◌+◌, ◌<◌, ◌≤◌, Bool, true, List, [], ◌∷◌, Some, map, take, length, slice_get, slice_index}
use mathlib.Core.Option.{some}
use lib.ListN.{get_elem?}
use Rattle.atomic_table.specs.Table.{State}
use Rattle.farm_model.specs.Packages.{names}
use Rattle.plan_model.specs.Common.{lane, World}
use Rattle.archive_laws.specs.Shown.{IsReached}
use Rattle.archive_laws.specs.Bounds.{IsWithinBits}
use Rattle.archive_laws.specs.Records.{Record, blank}
use Rattle.plan_verifier.specs.Accepted.{AcceptedPlan}
use Rattle.word_archive.specs.Serials.{IsSerials}
use Rattle.word_archive.specs.Views.{SeatView}

-- some lane has halted
abbrev pub HasHalted : List Record → Type 0
HasHalted records =
    (l : ℕ) × (r : Record) × (slice_get records l ≡ Some r) × (r.halted ≡ true)

-- The halt word is set exactly where some seat has halted, and a lane that was told so saw it set.
pub record IsHalted (word : ℕ) (records : List Record) (stopped : Bool) : Type 0 where
  pub set : (word ≢ 0) ↔ ((stopped ≡ true) ⊎ HasHalted records)
  pub sights : (l : ℕ) (r : Record) → slice_get records l ≡ Some r → r.saw ≡ true → word ≢ 0

-- what the words and the records show
abbrev pub shown_world : AcceptedPlan → List ℕ → List Record → World
shown_world a words records =
    record { words = take (names a.universe) words; lanes = map (λ r. r.at) records }

-- behind the words of the names stand the serial word and the halt word
abbrev pub serial_word : AcceptedPlan → List ℕ → ℕ
serial_word a words = slice_index words (names a.universe)

abbrev pub halt_word : AcceptedPlan → List ℕ → ℕ
halt_word a words = slice_index words (names a.universe + 1)

-- The words are those of these records:
pub record AreWordsOf (a : AcceptedPlan) (words : List ℕ) (records : List Record) (stopped : Bool)
    : Type 0 where
  -- a word for each name, the serial word, and the halt word; a record for each lane;
  pub long : length words ≡ names a.universe + 2
  pub lanes : length records ≡ length a.plan
  -- a word has what a lane knows of it;
  pub loads : (l : ℕ) (r : Record) → slice_get records l ≡ Some r → (n : ℕ) → n < names a.universe
      → IsWithinBits (slice_index r.loaded n) (slice_index words n)
  -- the serial word and the halt word tell of the records;
  pub serials : IsSerials a (serial_word a words) records
  pub halts : IsHalted (halt_word a words) records stopped
  -- and the words show, with the records, a reachable state.
  pub reached : IsReached a.universe a.plan (shown_world a words records)

-- the records that stand in a view belong to its seat, and are those of the lanes
abbrev pub Entries : (ℕ → ℕ) → List Record → ℕ → List (ℕ × Record) → Type 0
Entries owner records id [] = Unit {0}
Entries owner records id (e ∷ es) =
    ((owner e.0 ≡ id) × (slice_get records e.0 ≡ Some e.1)) × Entries owner records id es

-- each lane in the list is below n
abbrev pub AllBelow : ℕ → List (ℕ × Record) → Type 0
AllBelow n [] = Unit {0}
AllBelow n (e ∷ es) = (e.0 < n) × AllBelow n es

-- What the rule says of one view:
pub record Fits (a : AcceptedPlan) (owner : ℕ
    → ℕ) (records : List Record) (stopped : Bool) (id : ℕ)
    (v : SeatView) : Type 0 where
  -- its records are its own;
  pub entries : Entries owner records id v.mine
  -- the base seat's tells of the plan and of the halt, and has the lanes that were not split off;
  pub spare : v.base ≡ true
      → (v.about ≡ a) × (v.stopped ≡ stopped) × AllBelow v.next v.mine
      × ((l : ℕ) → v.next ≤ l → l < length records
      → (owner l ≡ id) × (slice_get records l ≡ Some (blank a.universe (lane a.plan l))))
  -- and is the first one.
  pub first : v.base ≡ true → id ≡ 0

-- lane l's record is in the list
abbrev pub IsAmong : ℕ → List (ℕ × Record) → Type 0
IsAmong l [] = ⊥
IsAmong l (e ∷ es) = (e.0 ≡ l) ⊎ IsAmong l es

-- the view has lane l's record, or is the base seat's and has the lane itself, which was not split
-- off
abbrev pub HasLane : ℕ → SeatView → Type 0
HasLane l v = IsAmong l v.mine ⊎ ((v.base ≡ true) × (v.next ≤ l))

-- so does the view of this number
abbrev pub StandsIn : List SeatView → (id l : ℕ) → Type 0
StandsIn views id l = (v : SeatView) × (get_elem? views id ≡ some v) × HasLane l v

-- Each lane's record stands in one view, and the words are those of the records.
pub record Keeps (a : AcceptedPlan) (words : List ℕ) (views : List SeatView) : Type 0 where
  pub records : List Record
  pub owner : ℕ → ℕ
  pub stopped : Bool
  pub stands : AreWordsOf a words records stopped
  pub fits : (id : ℕ) (v : SeatView) → get_elem? views id ≡ some v
      → Fits a owner records stopped id v
  -- a lane's record stands in its owner's view, and by the above in no other
  pub placed : (l : ℕ) → l < length records → StandsIn views (owner l) l

abbrev pub KeepsRule : {S : Type 0} → AcceptedPlan → State S SeatView → Type 0
KeepsRule a s = Keeps a s.words s.views
