-- What a call makes of a lane's seat, as callers see it. The project's own words. Parameters: q a
-- lane's seat, n the number of a name, found its word.
--
--   seat_output, seat_made                 the output that comes next; how many are made
--   seat_loaded, seat_drawn, ..            the seat after a call
--   IsLoadedBy, IsBoundedFor               what a load tells of the word
use Rattle.std.specs.Prelude.{ℕ, Bool, ◌||◌, Option}
use Rattle.farm_model.specs.declared.types.Variant.{Variant}
use Rattle.archive_laws.specs.Bounds.{IsLoaded, IsInBounds}
use Rattle.archive_laws.specs.Records.{next_output, after_load, after_draw, after_publish, after_halt}
use Rattle.plan_verifier.specs.Accepted.{known_rows}
use Rattle.word_archive.specs.Seats.{LaneSeatOf}
use Rattle.word_archive.specs.Serials.{made_by}

-- the output that the lane makes next, where its next archive step is a publish
abbrev pub seat_output : LaneSeatOf → Option Variant
seat_output q = next_output q.about.universe q.about.plan q.lane q.log.at

-- how many outputs the lane has made
abbrev pub seat_made : LaneSeatOf → ℕ
seat_made q = made_by q.about q.lane q.log.at

-- the seat after a load of a name's word, a draw, an output, and a halt
abbrev pub seat_loaded : LaneSeatOf → ℕ → ℕ → LaneSeatOf
seat_loaded q n found =
    record q { log = after_load q.about.universe q.about.plan q.lane n found q.log }

abbrev pub seat_drawn : LaneSeatOf → ℕ → LaneSeatOf
seat_drawn q serial = record q { log = after_draw serial q.log }

abbrev pub seat_published : LaneSeatOf → LaneSeatOf
seat_published q = record q { log = after_publish q.about.universe q.about.plan q.lane q.log }

abbrev pub seat_halted : LaneSeatOf → LaneSeatOf
seat_halted q = record q { log = after_halt q.log }

-- the seat after a look that was answered so
abbrev pub seat_told : LaneSeatOf → Bool → LaneSeatOf
seat_told q answer = record q { log = record q.log { saw = q.log.saw || answer } }

-- the word stands in a world that is reached, in which the lane is at its next archive step
abbrev pub IsLoadedBy : LaneSeatOf → ℕ → ℕ → Type 0
IsLoadedBy q n found = IsLoaded q.about.universe q.about.plan q.lane q.log.at n found

-- it has what the lane knows there, and nothing outside what is possible there and the outputs made
-- of a publish that it stands at
abbrev pub IsBoundedFor : LaneSeatOf → ℕ → ℕ → Type 0
IsBoundedFor q n found =
    IsInBounds q.about.universe q.about.plan (known_rows q.about) q.lane q.log.at n found
