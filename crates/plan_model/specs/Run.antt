-- All lanes together: states, steps, runs, and what a schedule comes to. The project's own rules.
--
--   Publication, archive                what was published; what the archive has
--   State, start, step                  a state, the first one, and one turn of a lane of the plan
--   Run, Reachable, is_finished         runs over lists of lane numbers
--   play, result_of                     what a schedule comes to
use Rattle.std.specs.Prelude.{◌≡◌, ℕ, suc, Bool, ◌||◌, nat_le, nat_lt, List, [], ◌∷◌, ◌++◌, length, map, Option, Some, None, slice_index_or, slice_set, if◌then◌else◌}
use Rattle.std.specs.List.{list_any}
use Rattle.farm_model.specs.Common.{every_below, Universe, same, initial}
use Rattle.farm_model.specs.declared.types.Variant.{Variant}
use Rattle.farm_model.specs.declared.types.Trap.{Trap}
use Rattle.plan_model.specs.Plan.{Plan, lane, instruction_at}
use Rattle.plan_model.specs.Turn.{LaneState, start_lane, Turn, Goes, Gives, Waits, Ends, Fails, turn_of}

-- a variant that a lane has published
pub record Publication : Type 0 where
  pub lane : ℕ
  pub variant : Variant

-- the publication of a variant by a lane
abbrev pub publication : ℕ → Variant → Publication
publication l v = record { lane = l; variant = v }

-- the archive: the initial variants and the published ones. Nothing leaves it
unfoldable pub archive : Universe → List Publication → Variant → Bool
archive u published v = initial u v || list_any (λ (q : Publication). same q.variant v) published

-- the lanes, and what was published, the newest last
pub record State : Type 0 where
  pub lanes : List LaneState
  pub published : List Publication

-- the first state: each lane at its beginning, nothing published
abbrev pub start : Universe → Plan → State
start u p = record { lanes = map (start_lane u) p; published = [] }

-- what is read past the last lane
abbrev pub no_state : LaneState
no_state = record { done = 0; made = 0; chroot = []; spent = 0; built = [] }

-- the state of the lane of this number
abbrev pub lane_state : State → ℕ → LaneState
lane_state s l = slice_index_or s.lanes l no_state

-- what a turn of a lane comes to
pub data Outcome : Type 0 where
  Moved : (state : State) → Outcome
  Blocked : Outcome
  Finished : Outcome
  Unknown : Outcome
  Trapped : (trap : Trap) → Outcome

-- the lane's turn in the state: the lane changes, and an output enters the archive
abbrev pub outcome : State → ℕ → Turn → Outcome
outcome s l (Goes next) = Moved
    (record { lanes = slice_set s.lanes l next; published = s.published })
outcome s l (Gives next v) = Moved
    (record { lanes = slice_set s.lanes l next; published = s.published ++ publication l v ∷ [] })
outcome s l Waits = Blocked
outcome s l Ends = Finished
outcome s l (Fails trap) = Trapped trap

-- one turn of the lane of this number
unfoldable pub step : Universe → Plan → State → ℕ → Outcome
step u p s l =
    if nat_lt l (length p)
    then outcome s l (turn_of u (archive u s.published) (lane p l) (lane_state s l)
    (instruction_at p l (lane_state s l).done))
    else Unknown

-- these lanes step, one after another, from one state to another
abbrev pub Run : Universe → Plan → State → List ℕ → State → Type 0
Run u p s [] t = s ≡ t
Run u p s (l ∷ ls) t = (m : State) × (step u p s l ≡ Moved m) × Run u p m ls t

-- some run leads from the start to the state
abbrev pub Reachable : Universe → Plan → State → Type 0
Reachable u p s = (schedule : List ℕ) × Run u p (start u p) schedule s

-- no lane has an instruction left
unfoldable pub is_finished : Plan → State → Bool
is_finished p s = every_below (length p)
    (λ l. nat_le (length (lane p l).instructions) (lane_state s l).done)

-- the event that met a trap: its place in the schedule and the number of the instruction in its
-- lane, both from 1
pub record Stop : Type 0 where
  pub step : ℕ
  pub lane : ℕ
  pub instruction : ℕ
  pub trap : Trap

-- what a schedule comes to: the last state, and the first trap
pub record Ending : Type 0 where
  pub state : State
  pub stop : Option Stop

-- the event k comes to this outcome: events of blocked, finished and unknown lanes are left out, a
-- trap ends all
abbrev pub play_on : ℕ → State → ℕ → Outcome → (State → Ending) → Ending
play_on k s l (Moved m) rest = rest m
play_on k s l Blocked rest = rest s
play_on k s l Finished rest = rest s
play_on k s l Unknown rest = rest s
play_on k s l (Trapped trap) rest =
    record {
      state = s;
      stop = Some
          (record { step = k; lane = l; instruction = suc (lane_state s l).done; trap = trap });
    }

-- what is left of a schedule from its event k on
abbrev pub play : Universe → Plan → ℕ → State → List ℕ → Ending
play u p k s [] = record { state = s; stop = None }
play u p k s (l ∷ ls) = play_on k s l (step u p s l) (λ m. play u p (suc k) m ls)

-- what a schedule comes to
abbrev pub result_of : Universe → Plan → List ℕ → Ending
result_of u p schedule = play u p 1 (start u p) schedule
