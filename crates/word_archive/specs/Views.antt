-- What a seat knows, its view, and how views are split and joined. The project's own words.
-- Parameters: a an accepted plan, l the number of a lane, r its record.
--
--   SeatView                        a view
--   base_view, lane_view, spent     that of the base seat, of a lane's seat, one without records
--   lane_in, record_in              the lane and the record of a lane's view
--   split_left, split_right         the base seat's with one more lane split off; the lane's
--   joined_view, halted_base        the base seat's with another's records; after its halt
use Rattle.std.specs.Prelude.{ℕ, suc, Bool, true, false, List, [], ◌∷◌, ◌++◌}
use Rattle.farm_model.specs.Universe.{Universe}
use Rattle.plan_model.specs.Plan.{lane}
use Rattle.archive_laws.specs.Records.{Record, blank}
use Rattle.plan_verifier.specs.Accepted.{AcceptedPlan}

-- a view: of which plan; whether it is the base seat's, and then from which lane on no seat was
-- split off and whether it has halted; and the records that stand in it, with their lanes
pub record SeatView : Type 0 where
  pub about : AcceptedPlan
  pub base : Bool
  pub next : ℕ
  pub stopped : Bool
  pub mine : List (ℕ × Record)

abbrev pub base_view : AcceptedPlan → ℕ → Bool → List (ℕ × Record) → SeatView
base_view a next stopped mine =
    record { about = a; base = true; next = next; stopped = stopped; mine = mine }

abbrev pub lane_view : AcceptedPlan → ℕ → Record → SeatView
lane_view a l r =
    record { about = a; base = false; next = 0; stopped = false; mine = (l, r) ∷ [] }

-- the spent view is about no farm
abbrev pub no_universe : Universe
no_universe = record {
  names = [];
  packages = [];
  recipes = [];
  bases = [];
  initial = [];
  architectures = [];
}

abbrev pub no_plan : AcceptedPlan
no_plan = record {
  universe = no_universe;
  plan = [];
  known = record { universe = no_universe; plan = []; columns = [] };
  order = [];
  costs = [];
}

-- a view without records, as a seat has that was joined
abbrev pub spent : SeatView
spent = record { about = no_plan; base = false; next = 0; stopped = false; mine = [] }

abbrev pub first_lane : List (ℕ × Record) → ℕ
first_lane [] = 0
first_lane (e ∷ es) = e.0

abbrev pub first_record : List (ℕ × Record) → Record → Record
first_record [] r = r
first_record (e ∷ es) r = e.1

-- the lane of a lane's view, and its record
abbrev pub lane_in : SeatView → ℕ
lane_in v = first_lane v.mine

abbrev pub record_in : SeatView → Record
record_in v = first_record v.mine (blank v.about.universe (lane v.about.plan 0))

-- the base seat's view with one more lane split off, and that lane's view
abbrev pub split_left : SeatView → SeatView
split_left v = record v { next = suc v.next }

abbrev pub split_right : SeatView → SeatView
split_right v =
    lane_view v.about v.next (blank v.about.universe (lane v.about.plan v.next))

-- the base seat's view with the records of another
abbrev pub joined_view : SeatView → SeatView → SeatView
joined_view v w = record v { mine = v.mine ++ w.mine }

-- the base seat's view once it has halted
abbrev pub halted_base : SeatView → SeatView
halted_base v = record v { stopped = true }
