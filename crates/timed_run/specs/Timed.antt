-- The timed run of a plan: each event takes its cost in steps as time, and each lane goes on as
-- soon as it can. The project's own rules. Parameters: u the universe, p the plan, b where the run
-- begins, events the run from there to its end, m a moment.
--
--   archive_at        the archive at a moment
--   free_at           when a lane's last event so far ends
--   turn_over, rests  what a lane would do over an archive; whether it stays where it is
--   Takes             how long an event takes, and what it gives
--   IsTimed           the times of one event, behind those before it
--   counts_at         the moment of an event
--   IsNoLater         a lane at a moment comes no later than another at another
--   AreInOrder        the order of the events
--   EndsAt            an event ends then
--   IsReached         the end of a run is that of one of its events, or of what is under way
--   IsTimedRun        a run of all lanes to their ends, whose events are timed and in order
--   IsOnlyTimedRun    the plan has no other from there
use Rattle.std.specs.Prelude.{◌≡◌, ℕ, suc, ◌+◌, ◌-◌, ◌*◌, ◌<◌, ◌≤◌, ◌⊎◌, Bool, true, false, ◌||◌, ◌&&◌, ◌==◌, nat_le, List, [], map, take, fold, Option, Some, None, slice_get, if◌then◌else◌, All}
use Rattle.std.specs.List.{list_any}
use Rattle.farm_model.specs.Common.{Universe, same}
use Rattle.farm_model.specs.declared.types.Variant.{Variant}
use Rattle.plan_model.specs.Common.{Plan, lane, instruction_at, LaneState, Turn, Goes, Gives, Waits, Ends, turn_of, State, archive, lane_state, Run, is_finished, play}
use Rattle.timed_run.specs.Beginning.{Beginning, first_free, BeginsAt}
use Rattle.timed_run.specs.declared.event.Event.{Event}

-- the output is this variant
abbrev pub is_given : Option Variant → Variant → Bool
is_given None v = false
is_given (Some w) v = same w v

-- the archive at a moment: what is there at the beginning, and the outputs of events that have ended
-- by then
unfoldable pub archive_at : Universe → Beginning → List Event → ℕ → Variant → Bool
archive_at u b events m v =
    archive u b.state.published v
    || list_any (λ (e : Event). nat_le e.end m && is_given e.output v) events

-- when the last of these events of the lane ends, at first where it has none
abbrev pub free_at : (first l : ℕ) → List Event → ℕ
free_at first l events = fold (λ at (e : Event). if e.lane == l then e.end else at) first events

-- what a lane would do at its next turn, over an archive
abbrev pub turn_over : Universe → Plan → State → ℕ → (Variant → Bool) → Turn
turn_over u p s l there = turn_of u there (lane p l) (lane_state s l)
    (instruction_at p l (lane_state s l).done)

-- it stays where it is: it waits, or it has no instruction left
abbrev pub rests : Turn → Bool
rests Waits = true
rests Ends = true
rests _ = false

-- an instruction takes its cost as time; an output takes one step, and is there when that ends
abbrev pub Takes : Event → LaneState → Turn → Type 0
Takes e st (Goes next) = (e.output ≡ None) × (e.end ≡ e.begin + (next.spent - st.spent))
Takes e st (Gives next v) = (e.output ≡ Some v) × (e.end ≡ suc e.begin)
Takes e st _ = ⊥

-- an event of the timed run, behind those before it:
pub record IsTimed (u : Universe) (p : Plan) (b : Beginning) (events before : List Event)
    (e : Event) : Type 0 where
  -- in the state to which these lead
  pub state : State
  pub run : Run u p b.state (map (λ (x : Event). x.lane) before) state
  -- it is of the instruction at which its lane stands;
  pub place : e.place ≡ (lane_state state e.lane).done
  -- from the end of the lane's last event on its lane is free, or from when it is first,
  pub free : e.free ≡ free_at (first_free b e.lane) e.lane before
  pub later : e.free ≤ e.begin
  -- and it begins at the first moment at which the lane does not rest, over the archive then;
  pub rested : (m : ℕ) → e.free ≤ m → m < e.begin
      → rests (turn_over u p state e.lane (archive_at u b events m)) ≡ true
  -- it takes as long as what the lane then does;
  pub takes : Takes e (lane_state state e.lane)
      (turn_over u p state e.lane (archive_at u b events e.begin))
  -- and unless it is an output, what its instruction looks at in the run is the archive then.
  pub seen : e.output ≡ None → (v : Variant)
      → archive u state.published v ≡ archive_at u b events e.begin v

-- each of these events is timed
abbrev pub AreTimed : Universe → Plan → Beginning → List Event → Type 0
AreTimed u p b events = (k : ℕ) (e : Event) → slice_get events k ≡ Some e
    → IsTimed u p b events (take k events) e

-- an output counts where it ends, anything else where it begins: at twice that time, and one more
-- where it begins, so that of what happens at one time outputs come first
abbrev pub moment_by : Option Variant → (begin end : ℕ) → ℕ
moment_by None begin end = 2 * begin + 1
moment_by (Some v) begin end = 2 * end

abbrev pub counts_at : Event → ℕ
counts_at e = moment_by e.output e.begin e.end

-- lane l at moment m comes no later than lane k at moment n: at one moment lanes are in file order
abbrev pub IsNoLater : (m l n k : ℕ) → Type 0
IsNoLater m l n k = (m ≤ n) × (m ≡ n → l ≤ k)

abbrev pub IsInOrder : Event → Event → Type 0
IsInOrder a b = IsNoLater (counts_at a) a.lane (counts_at b) b.lane

-- each event comes no later than those behind it
abbrev pub AreInOrder : List Event → Type 0
AreInOrder events = (j k : ℕ) (a b : Event) → j < k → slice_get events j ≡ Some a
    → slice_get events k ≡ Some b → IsInOrder a b

-- an event ends then
abbrev pub EndsAt : List Event → ℕ → Type 0
EndsAt events end = (k : ℕ) × (e : Event) × (slice_get events k ≡ Some e) × (e.end ≡ end)

-- an event ends then, or a lane is first free then, if there is any
abbrev pub IsReached : Beginning → List Event → ℕ → Type 0
IsReached b events end =
    ((events ≡ []) × (end ≡ 0)) ⊎ BeginsAt b end ⊎ EndsAt events end

-- The timed run:
pub record IsTimedRun (u : Universe) (p : Plan) (b : Beginning) (events : List Event) (end : ℕ)
    : Type 0 where
  -- its events, one after another, lead all lanes to their ends;
  pub last : State
  pub run : Run u p b.state (map (λ (x : Event). x.lane) events) last
  pub finished : is_finished p last ≡ true
  -- as a schedule they meet no trap;
  pub schedule : play u p 1 b.state (map (λ (x : Event). x.lane) events)
      ≡ record { state = last; stop = None }
  -- each is timed;
  pub timed : AreTimed u p b events
  -- they are in the order in which they count;
  pub ordered : AreInOrder events
  -- and the run ends when the last of them does, and each lane is free.
  pub greatest : All (λ (e : Event). e.end ≤ end) events
  pub free : All (λ time. time ≤ end) b.free
  pub reached : IsReached b events end

-- any timed run of the plan from there has these events, in this order, and this end
pub record IsOnlyTimedRun (u : Universe) (p : Plan) (b : Beginning) (events : List Event)
    (end : ℕ) : Type 0 where
  pub only : (other : List Event) (last : ℕ) → IsTimedRun u p b other last
      → (other ≡ events) × (last ≡ end)
