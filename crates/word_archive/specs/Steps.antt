-- What each step of a seat tells it: its record after the step, and what was found. The project's
-- own words. Parameters: t the step, me what the seat knew, found the word before the step, after
-- what the seat knows then.
--
--   Loaded, Drawn, Published          a load of a name's word, a draw of a serial, an output
--   Halted, Stopped, Looked           a halt by a lane, and by the base seat; a look for one
use Rattle.std.specs.Prelude.{◌≡◌, ◌≢◌, ◌⊎◌, ℕ, suc, ◌<◌, true, [], All, slice_index}
use Rattle.atomic_table.specs.Table.{Me, Step}
use Rattle.archive_laws.specs.Bounds.{IsWithinBits, IsRecord, IsLoaded}
use Rattle.archive_laws.specs.Records.{Record, after_load, after_draw, after_publish, after_halt, after_look}
use Rattle.word_archive.specs.Serials.{made_by}
use Rattle.word_archive.specs.Views.{SeatView, lane_view, lane_in, record_in, halted_base}

-- the lane's seat has this record, of which holds what holds of each
abbrev pub Becomes : {S : Type 0} → Me S SeatView → Record → Me S SeatView → Type 0
Becomes {S} me r after =
    (after ≡ (lane_view me.0.about (lane_in me.0) r, []))
    × IsRecord me.0.about.universe me.0.about.plan (lane_in me.0) r

-- the record of a lane's view after a load, and after an output
abbrev pub loaded_record : SeatView → ℕ → ℕ → Record
loaded_record v n found =
    after_load v.about.universe v.about.plan (lane_in v) n found (record_in v)

abbrev pub published_record : SeatView → Record
published_record v = after_publish v.about.universe v.about.plan (lane_in v) (record_in v)

-- a load of the word of a name: the word is one of a world that is reached, it has what was loaded
-- before, and no output is made
abbrev pub Loaded : {S : Type 0} → Step S → Me S SeatView → ℕ → Me S SeatView → Type 0
Loaded {S} t me found after =
    Becomes me (loaded_record me.0 t.word found) after
    × IsLoaded me.0.about.universe me.0.about.plan (lane_in me.0) (record_in me.0).at t.word found
    × IsWithinBits (slice_index (record_in me.0).loaded t.word) found
    × (made_by me.0.about (lane_in me.0) (loaded_record me.0 t.word found).at
    ≡ made_by me.0.about (lane_in me.0) (record_in me.0).at)

-- a serial, above those that the lane drew before
abbrev pub Drawn : {S : Type 0} → Step S → Me S SeatView → ℕ → Me S SeatView → Type 0
Drawn {S} t me found after =
    Becomes me (after_draw found (record_in me.0)) after
    × All (λ x. x < found) (record_in me.0).serials

-- an output: one more is made
abbrev pub Published : {S : Type 0} → Step S → Me S SeatView → ℕ → Me S SeatView → Type 0
Published {S} t me found after =
    Becomes me (published_record me.0) after
    × (made_by me.0.about (lane_in me.0) (published_record me.0).at
    ≡ suc (made_by me.0.about (lane_in me.0) (record_in me.0).at))

-- the halt word set by a lane's seat, and by the base seat
abbrev pub Halted : {S : Type 0} → Step S → Me S SeatView → ℕ → Me S SeatView → Type 0
Halted {S} t me found after = Becomes me (after_halt (record_in me.0)) after

abbrev pub Stopped : {S : Type 0} → Step S → Me S SeatView → ℕ → Me S SeatView → Type 0
Stopped {S} t me found after = after ≡ (halted_base me.0, [])

-- a look at the halt word, which is set once the lane has halted or was told of a halt
abbrev pub Looked : {S : Type 0} → Step S → Me S SeatView → ℕ → Me S SeatView → Type 0
Looked {S} t me found after =
    Becomes me (after_look found (record_in me.0)) after
    × (((record_in me.0).halted ≡ true) ⊎ ((record_in me.0).saw ≡ true) → found ≢ 0)
