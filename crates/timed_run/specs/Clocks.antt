-- A timed run on its way: the events so far, and where each lane stands in time. Parameters: b where
-- the run begins.
--
--   AreFresh        the first n lanes are free from these times on
--   moment_of       the moment of a lane's next event: twice the time at which an output ends, and
--                   one more than twice that at which anything else begins
--   IsPast          an event comes no later than a lane at a moment
--   IsClock         what is known of a lane
--   IsTiming        what is known of all
--   StaysOver       whether a lane that rests still does, with one variant more
--   IsWoken, AreWoken  lanes that were asleep, behind an output
--   IsFirst, FoundTo  the lane that has the next event, among the first n lanes
--   awake_of, work_left  how many lanes are awake; what is still to be tried at most
use Rattle.std.specs.Prelude.{Option, None, ◌≡◌, ℕ, suc, max, ◌+◌, ◌-◌, ◌*◌, ◌^◌, ◌<◌, ◌≤◌, Bool, true, false, ◌||◌, ◌⊎◌, List, [], ◌∷◌, length, map, Some, slice_get, slice_index_or, if◌then◌else◌, All}
use Rattle.std.specs.List.{list_any}
use Rattle.farm_model.specs.Common.{Universe, same}
use Rattle.farm_model.specs.declared.types.Variant.{Variant}
use Rattle.plan_model.specs.Common.{Plan, instruction_at, State, archive, lane_state, Reachable, Run, is_publish}
use Rattle.timed_run.specs.Beginning.{Beginning, first_free}
use Rattle.timed_run.specs.declared.clock.Clock.{Clock}
use Rattle.timed_run.specs.declared.event.Event.{Event}
use Rattle.timed_run.specs.Timed.{is_given, archive_at, free_at, turn_over, rests, counts_at, IsNoLater, AreTimed, AreInOrder}

-- a lane that is free from this time on
abbrev pub fresh : ℕ → Clock
fresh time = record { free = time; next = time; awake = true }

pub record AreFresh (free : List ℕ) (n : ℕ) (clocks : List Clock) : Type 0 where
  pub long : length clocks ≡ n
  pub each : (l : ℕ) (c : Clock) → slice_get clocks l ≡ Some c
      → (c ≡ fresh (slice_index_or free l 0)) × (c.free < 2 ^ 64)

-- the moment of the next event of a lane that is free at this time
abbrev pub moment_of : Plan → State → ℕ → ℕ → ℕ
moment_of p s l time =
    if is_publish (instruction_at p l (lane_state s l).done) then 2 * time + 2 else 2 * time + 1

-- the event comes no later than this lane at this moment
abbrev pub IsPast : (now last : ℕ) → Event → Type 0
IsPast now last e = (2 * e.begin + 1 ≤ now)
    × ((v : Variant) → e.output ≡ Some v → 2 * e.end ≤ now)
    × IsNoLater (counts_at e) e.lane now last

-- a lane behind these events, of which the last one was of this lane at this moment
pub record IsClock (u : Universe) (p : Plan) (b : Beginning) (events : List Event) (s : State)
    (now last l : ℕ) (c : Clock) : Type 0 where
  pub free : c.free ≡ free_at (first_free b l) l events
  pub ahead : c.free ≤ c.next
  pub small : c.next ≤ (length events + 1) * (2 ^ 64 - 1)
  -- awake, it has its next event at a moment that is still to come, for which it has rested
  pub later : c.awake ≡ true → IsNoLater now last (moment_of p s l c.next) l
  pub known : c.awake ≡ true → (c.next ≡ c.free) ⊎ (2 * c.next ≤ now)
  pub rested : c.awake ≡ true → (m : ℕ) → c.free ≤ m → m < c.next
      → rests (turn_over u p s l (archive_at u b events m)) ≡ true
  -- asleep, it rests over the archive that is there
  pub asleep : c.awake ≡ false → rests (turn_over u p s l (archive u s.published)) ≡ true

-- the archive with the outputs of all these events
unfoldable pub archive_behind : Universe → Beginning → List Event → Variant → Bool
archive_behind u b events v = archive u b.state.published v
    || list_any (λ (e : Event). is_given e.output v) events

-- a timed run on its way: the moment and the lane of its last event, and what is known
pub record IsTiming (u : Universe) (p : Plan) (b : Beginning) (events : List Event) (s : State)
    (clocks : List Clock) : Type 0 where
  pub reached : Reachable u p b.state
  pub now : ℕ
  pub last : ℕ
  pub run : Run u p b.state (map (λ (e : Event). e.lane) events) s
  pub made : (v : Variant) → archive u s.published v ≡ archive_behind u b events v
  pub past : All (IsPast now last) events
  pub timed : AreTimed u p b events
  pub ordered : AreInOrder events
  pub long : length clocks ≡ length p
  pub each : (l : ℕ) (c : Clock) → slice_get clocks l ≡ Some c
      → IsClock u p b events s now last l c

-- with this variant in the archive too, the lane rests where it rested
abbrev pub StaysOver : Universe → Plan → State → ℕ → Variant → Type 0
StaysOver u p s l v = (there : Variant → Bool) → rests (turn_over u p s l there) ≡ true
    → rests (turn_over u p s l (λ w. there w || same v w)) ≡ true

-- the lane is tried again from this time on, or from when it was free
abbrev pub woken : Clock → ℕ → Clock
woken c time = record { free = c.free; next = max c.free time; awake = true }

-- a lane behind an output: it was awake, or rests on, or is tried again
abbrev pub IsWoken : Universe → Plan → State → Variant → ℕ → ℕ → Clock → Clock → Type 0
IsWoken u p s v time l old new =
    ((new ≡ old) × ((old.awake ≡ true) ⊎ StaysOver u p s l v))
    ⊎ ((old.awake ≡ false) × (new ≡ woken old time))

-- so are the first n lanes, and the others are as they were
pub record AreWoken (u : Universe) (p : Plan) (s : State) (v : Variant) (time n : ℕ)
    (old new : List Clock) : Type 0 where
  pub long : length new ≡ length old
  pub each : (l : ℕ) (c : Clock) → slice_get new l ≡ Some c → (d : Clock)
      × (slice_get old l ≡ Some d) × (l < n → IsWoken u p s v time l d c)
      × (n ≤ l → c ≡ d)

-- the lane is awake, and of the first n lanes none that is awake has an event before its next, nor
-- has one before it in the order of lanes an event at the same moment
pub record IsFirst (p : Plan) (s : State) (clocks : List Clock) (l n : ℕ) : Type 0 where
  pub clock : Clock
  pub is : slice_get clocks l ≡ Some clock
  pub within : l < n
  pub awake : clock.awake ≡ true
  pub first : (k : ℕ) (d : Clock) → k < n → slice_get clocks k ≡ Some d → d.awake ≡ true
      → IsNoLater (moment_of p s l clock.next) l (moment_of p s k d.next) k

-- it is that lane, or none of them is awake
abbrev pub FoundTo : Plan → State → List Clock → ℕ → Option ℕ → Type 0
FoundTo p s clocks n None = (k : ℕ) (d : Clock) → k < n → slice_get clocks k ≡ Some d
    → d.awake ≡ false
FoundTo p s clocks n (Some l) = IsFirst p s clocks l n

-- how many lanes are awake
abbrev pub awake_of : List Clock → ℕ
awake_of [] = 0
awake_of (c ∷ cs) = (if c.awake then 1 else 0) + awake_of cs

-- at most so many times a lane is tried: each event may wake all
abbrev pub work_left : ℕ → List Event → List Clock → ℕ
work_left count events clocks =
    (count - length events) * suc (length clocks) + awake_of clocks
