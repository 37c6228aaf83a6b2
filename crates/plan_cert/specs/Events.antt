-- The waits and outputs of a lane as the program keeps them. The project's own words. Parameters: u
-- a universe, p a plan, l a lane, i a place.
--
--   order_item_of, IsEvent  an event as an item of the lane
--   AreEvents               those of the first i instructions
--   AreLaneEvents           those of the lanes below n
--   left_by                 what each lane has left where so many of its events are made
--   IsMade                  whether an event is made
--   IsStep                  whether a lane makes its next one
use Rattle.std.specs.Prelude.{◌≡◌, ℕ, Bool, true, false, List, [], ◌∷◌, ◌++◌, length, map, take, drop, Option, Some, None, slice_get, slice_index, All}
use Rattle.deb_relation.specs.Relations.{Entry}
use Rattle.farm_model.specs.Common.{Universe, names, IsKnown}
use Rattle.plan_model.specs.Common.{OrderItem, Pass, Give, items, Board, on_board, rest_of, board_after, Plan, lane, instruction_at}
use Rattle.plan_model.specs.declared.instructions.Instruction.{Instruction}
use Rattle.plan_model.specs.declared.instructions.Instruction.TheVariants.{Wait}
use Rattle.sat_rows.specs.Rows.{IsRowOf}
use Rattle.wait_order.specs.Standing.{IsReached, Makes}
use Rattle.plan_cert.specs.declared.events.Event.{Event}
use Rattle.plan_cert.specs.declared.events.LaneEvents.{LaneEvents}

-- the entry of the wait that is there, if one is
abbrev pub entry_of : Option Instruction → Entry
entry_of None = []
entry_of (Some (Wait e)) = e
entry_of (Some x) = []

-- a wait is kept by its place
abbrev pub order_item_of : Plan → ℕ → Event → OrderItem
order_item_of p l (Event.Pass place) = Pass (entry_of (instruction_at p l place))
order_item_of p l (Event.Give v) = Give v

-- a wait stands at the place; an output is known
abbrev pub IsEvent : Universe → Plan → ℕ → Event → Type 0
IsEvent u p l (Event.Pass place) = (e : Entry) × (instruction_at p l place ≡ Some (Wait e))
IsEvent u p l (Event.Give v) = IsKnown u v

-- the items of the first i instructions
pub record AreEvents (u : Universe) (p : Plan) (l i : ℕ) (events : List Event) : Type 0 where
  pub each : All (IsEvent u p l) events
  pub items : map (order_item_of p l) events ≡ items u (take i (lane p l).instructions)

-- those of each lane below n
pub record AreLaneEvents (u : Universe) (p : Plan) (n : ℕ) (lanes : List LaneEvents)
    : Type 0 where
  pub long : length lanes ≡ n
  pub each : (l : ℕ) (of : LaneEvents) → slice_get lanes l ≡ Some of
      → AreEvents u p l (length (lane p l).instructions) of.events.items

-- the items of a lane
abbrev pub lane_items : Universe → Plan → ℕ → List OrderItem
lane_items u p l = items u (lane p l).instructions

-- the items that each lane has left
abbrev pub left_by : Universe → Plan → List ℕ → ℕ → List OrderItem
left_by u p made l = drop (slice_index made l) (lane_items u p l)

-- the item is made, or it is a wait that does not pass
pub record IsMade (u : Universe) (l : ℕ) (item : OrderItem) (there next_there : List ℕ)
    (made : Bool)
    : Type 0 where
  pub long : length next_there ≡ names u
  pub makes : made ≡ true → (order : List ℕ)
      → Makes u l (item ∷ []) order there (order ++ l ∷ []) next_there
  pub stops : made ≡ false → (b : Board) (more : List OrderItem) → IsRowOf u (on_board u b) there
      → board_after u b l (item ∷ more) ≡ None

-- lane l makes its next item; or it cannot, on any board that is reached
pub record IsStep (u : Universe) (p : Plan) (l : ℕ) (made next : List ℕ)
    (there next_there : List ℕ) (stepped : Bool) : Type 0 where
  pub long : length next_there ≡ names u
  pub lanes : length next ≡ length made
  pub makes : stepped ≡ true → (order : List ℕ) → IsReached u p order there (left_by u p made)
      → IsReached u p (order ++ l ∷ []) next_there (left_by u p next)
  pub stops : stepped ≡ false → (order : List ℕ) (r : IsReached u p order there (left_by u p made))
      → board_after u r.board l (rest_of r.board l) ≡ None
