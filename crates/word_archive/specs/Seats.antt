-- Seats as contracts see them: a lane's seat, and all seats that are in. The project's own words.
-- Parameters: t the number of a table, a an accepted plan, l a lane, r its record.
--
--   LaneSeatOf, IsSeat         a lane's seat; what it keeps beside its view
--   LaneSeatsOf, IsSeats       all seats; what they keep
--   SeatsInPlace               each seat that is in is its place's
--   back                       the records of the seats that are in
--   opened_seats               all seats of an archive that was opened
use Rattle.std.specs.Prelude.{◌≡◌, ℕ, suc, ◌≤◌, Bool, false, List, [], ◌∷◌, length, map, Option, None, Some}
use Rattle.atomic_table.specs.Seated.{TableId}
use Rattle.atomic_table.specs.Table.{Me}
use Rattle.farm_model.specs.Universe.{Universe}
use Rattle.farm_model.specs.declared.types.Variant.{Variant}
use Rattle.plan_model.specs.Plan.{Lane, lane, lane_outputs}
use Rattle.archive_laws.specs.Bounds.{IsRecord}
use Rattle.archive_laws.specs.Records.{Record, blank}
use Rattle.plan_verifier.specs.Accepted.{AcceptedPlan}
use Rattle.word_archive.specs.Serials.{made_by}
use Rattle.word_archive.specs.Views.{SeatView, base_view, lane_view, record_in}

-- a lane's seat: of which table and plan it is, its lane, and the lane's record
pub record LaneSeatOf : Type 0 where
  pub table : TableId
  pub about : AcceptedPlan
  pub lane : ℕ
  pub log : Record

abbrev pub seat_of : TableId → AcceptedPlan → ℕ → Record → LaneSeatOf
seat_of t a l r = record { table = t; about = a; lane = l; log = r }

-- A seat of lane l with this view keeps, in this order: that the view is the lane's; what holds of
-- each record; what the lane publishes; the serials that it has drawn, with room for all that it
-- may draw; and how many outputs it has made.
abbrev pub IsSeat : {S : Type 0} → Me S SeatView → ℕ → List Variant → List ℕ → ℕ → ℕ → Type 0
IsSeat me l outputs serials room made =
    (me ≡ (lane_view me.0.about l (record_in me.0), []))
    × IsRecord me.0.about.universe me.0.about.plan l (record_in me.0)
    × (outputs ≡ lane_outputs me.0.about.universe (lane me.0.about.plan l))
    × (serials ≡ (record_in me.0).serials)
    × (length outputs ≤ room)
    × (made ≡ made_by me.0.about l (record_in me.0).at)

-- all seats: whether the base seat has halted, and for each lane its record, or None where its seat
-- is out
pub record LaneSeatsOf : Type 0 where
  pub table : TableId
  pub about : AcceptedPlan
  pub stopped : Bool
  pub logs : List (Option Record)

abbrev pub log_of : Option LaneSeatOf → Option Record
log_of None = None
log_of (Some q) = Some q.log

-- each seat that is in, from lane n on, is its place's, of this table and plan
abbrev pub SeatsInPlace : TableId → AcceptedPlan → ℕ → List (Option LaneSeatOf) → Type 0
SeatsInPlace t a n [] = Unit {0}
SeatsInPlace t a n (None ∷ xs) = SeatsInPlace t a (suc n) xs
SeatsInPlace t a n (Some q ∷ xs) = (q ≡ seat_of t a n q.log) × SeatsInPlace t a (suc n) xs

-- the seats of a plan, with the base seat's view: every lane was split off, and has its place
abbrev pub IsSeats : {S : Type 0} → TableId → Me S SeatView → List (Option LaneSeatOf) → Type 0
IsSeats t me seats =
    (me ≡ (base_view me.0.about (length seats) me.0.stopped [], []))
    × SeatsInPlace t me.0.about 0 seats
    × (length seats ≡ length me.0.about.plan)

-- the records of the seats that are in, with their lanes
abbrev pub back : ℕ → List (Option LaneSeatOf) → List (ℕ × Record)
back n [] = []
back n (None ∷ xs) = back (suc n) xs
back n (Some q ∷ xs) = (n, q.log) ∷ back (suc n) xs

-- the record of a lane at its beginning, as that of a seat that is in
abbrev pub blank_log : Universe → Lane → Option Record
blank_log u of = Some (blank u of)

-- the seats of an archive that was opened: each lane's seat is in, with a blank record
abbrev pub opened_seats : TableId → AcceptedPlan → LaneSeatsOf
opened_seats t a = record {
  table = t;
  about = a;
  stopped = false;
  logs = map (blank_log a.universe) a.plan;
}
