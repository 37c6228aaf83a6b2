-- The critical path of a timed run: the chain of events that its end hangs on. Parameters: b where
-- the run begins, events the run, j and k the numbers of events in it, path numbers of events, the
-- last event first.
--
--   WaitsFor, LetsPass  a wait that a variant satisfies; an output that lets a wait pass
--   Follows        an event goes on when another ends: that before it in its lane, or, where it
--                  waited, an output that lets it pass
--   NoneFrom       no event of a lane from one place to another
--   BeginsFirst    an event begins when its lane is first free
--   IsChain        from such an event, each follows that before it
--   NoneEnds       no event ends then
--   IsCriticalPath  such a chain that ends when the run does
use Rattle.std.specs.Prelude.{◌≡◌, ℕ, ◌<◌, ◌≤◌, ◌⊎◌, true, Option, None, List, [], ◌∷◌, Some, slice_get}
use Rattle.deb_relation.specs.Relations.{Entry}
use Rattle.farm_model.specs.Common.{Universe, satisfies_entry}
use Rattle.farm_model.specs.declared.types.Variant.{Variant}
use Rattle.plan_model.specs.Plan.{Plan, instruction_at}
use Rattle.plan_model.specs.declared.instructions.Instruction.TheVariants.{Wait}
use Rattle.timed_run.specs.Beginning.{Beginning, first_free, BeginsAt}
use Rattle.timed_run.specs.declared.event.Event.{Event}

-- the instruction is a wait that the variant satisfies
pub record WaitsFor (u : Universe) (p : Plan) (l i : ℕ) (v : Variant) : Type 0 where
  pub entry : Entry
  pub waits : instruction_at p l i ≡ Some (Wait entry)
  pub meets : satisfies_entry u entry v ≡ true

-- none of the events from j to k is of the lane
abbrev pub NoneFrom : List Event → ℕ → ℕ → ℕ → Type 0
NoneFrom events l j k = (i : ℕ) (e : Event) → j ≤ i → i < k → slice_get events i ≡ Some e
    → e.lane ≡ l → ⊥

-- the second event is a wait, which the output of the first satisfies
pub record LetsPass (u : Universe) (p : Plan) (a b : Event) : Type 0 where
  pub output : Variant
  pub gives : a.output ≡ Some output
  pub waits : WaitsFor u p b.lane b.place output

-- event k begins when event j ends
pub record Follows (u : Universe) (p : Plan) (events : List Event) (j k : ℕ) : Type 0 where
  pub ahead : Event
  pub it : Event
  pub at_ahead : slice_get events j ≡ Some ahead
  pub at_it : slice_get events k ≡ Some it
  pub joins : ahead.end ≡ it.begin
  -- it is of the same lane, or k waited for it
  pub why : ((j < k) × (ahead.lane ≡ it.lane))
      ⊎ ((it.free < it.begin) × LetsPass u p ahead it)

-- event k begins when its lane is first free: at time 0 in a run from the beginning of the plan
abbrev pub BeginsFirst : Beginning → List Event → ℕ → Type 0
BeginsFirst b events k =
    (e : Event) × (slice_get events k ≡ Some e) × (e.begin ≡ first_free b e.lane)

-- the chain from there, the last event first
abbrev pub IsChain : Universe → Plan → Beginning → List Event → List ℕ → Type 0
IsChain u p b events [] = ⊥
IsChain u p b events (k ∷ []) = BeginsFirst b events k
IsChain u p b events (k ∷ j ∷ path) = Follows u p events j k × IsChain u p b events (j ∷ path)

-- the same, on its way: what is ahead of its first event comes next
abbrev pub IsLinked : Universe → Plan → Beginning → List Event → List ℕ → Option ℕ → Type 0
IsLinked u p b events [] next = Unit {0}
IsLinked u p b events (k ∷ []) None = BeginsFirst b events k
IsLinked u p b events (k ∷ []) (Some j) = Follows u p events j k
IsLinked u p b events (k ∷ j ∷ path) next =
    Follows u p events j k × IsLinked u p b events (j ∷ path) next

-- event j is an output that lets event k pass where it begins
pub record LetsOn (u : Universe) (p : Plan) (events : List Event) (j k : ℕ) : Type 0 where
  pub ahead : Event
  pub it : Event
  pub at_ahead : slice_get events j ≡ Some ahead
  pub at_it : slice_get events k ≡ Some it
  pub joins : ahead.end ≡ it.begin
  pub lets : LetsPass u p ahead it

-- no event ends then
abbrev pub NoneEnds : List Event → ℕ → Type 0
NoneEnds events end = (k : ℕ) (e : Event) → slice_get events k ≡ Some e → e.end ≡ end → ⊥

-- a chain whose last event ends at the end; none where the run has no event, or where none ends then
-- and the end hangs on what is under way at the beginning
abbrev pub IsCriticalPath : Universe → Plan → Beginning → List Event → ℕ → List ℕ → Type 0
IsCriticalPath u p b events end [] =
    (events ≡ []) ⊎ (NoneEnds events end × BeginsAt b end)
IsCriticalPath u p b events end (k ∷ path) = ((e : Event) × (slice_get events k ≡ Some e)
    × (e.end ≡ end)) × IsChain u p b events (k ∷ path)
