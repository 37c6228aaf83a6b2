-- Which lanes are stuck: a board on which nothing more goes shows it. The project's own rules.
-- Parameters: u a universe, p a plan, b a board.
--
--   AreLeft, lanes_left     the lanes that have something left on it
--   RestIsExact             what such a board says of the plan
--   StuckAreOne, OrdersLeaveNoneStuck
--                           the stuck lanes are one list, and none where there is an order
use Rattle.std.specs.Prelude.{◌≡◌, ◌≢◌, ℕ, Bool, true, false, List, [], ◌∷◌, length, All, Contains}
use Rattle.std.specs.List.{filter, range_with_len}
use Rattle.std.specs.List.Sorted.{IsStrictlyIncreasing}
use Rattle.farm_model.specs.Universe.{Universe}
use Rattle.plan_model.specs.Common.{Plan, OrderItem, Board, start_board, rest_of, Reaches, IsOrder, CannotEnd, AreStuck, IsAtRest}

-- these are all lanes that have something left, in file order
pub record AreLeft (b : Board) (lanes : List ℕ) : Type 0 where
  pub left : All (λ l. rest_of b l ≢ []) lanes
  pub all : (l : ℕ) → rest_of b l ≢ [] → Contains lanes l
  pub in_order : IsStrictlyIncreasing lanes

abbrev pub is_left : List OrderItem → Bool
is_left [] = false
is_left (x ∷ xs) = true

-- those lanes, by a test of each
abbrev pub lanes_left : Board → List ℕ
lanes_left b = filter (λ l. is_left (rest_of b l)) (range_with_len 0 (length b.rest))

-- A board at rest, to which some list of waits and outputs leads:
pub record RestIsExact (u : Universe) (p : Plan) (order : List ℕ) (end : Board) : Type 0 where
  -- a lane of the plan has something left on it just where no list of waits and outputs brings the
  -- lane past its last one;
  pub cannot_end : (l : ℕ) → rest_of end l ≢ [] → CannotEnd u p l
  pub left : (l : ℕ) → CannotEnd u p l → rest_of end l ≢ []
  -- so the lanes left are the stuck ones;
  pub stuck : (lanes : List ℕ) → AreLeft end lanes → AreStuck u p lanes
  -- and where none is left, the list is an order.
  pub is_order : AreLeft end [] → IsOrder u p order

-- each such board is exact
abbrev pub EachRestIsExact : Type 0
EachRestIsExact =
    (u : Universe) (p : Plan) (order : List ℕ) (end : Board) → Reaches u (start_board u p) order end
    → IsAtRest u end → RestIsExact u p order end

-- each board has its list of lanes left
abbrev pub LanesLeftAreLeft : Type 0
LanesLeftAreLeft = (b : Board) → AreLeft b (lanes_left b)

-- some list of waits and outputs leads to a board at rest
pub record ComesToRest (u : Universe) (b : Board) : Type 0 where
  pub order : List ℕ
  pub end : Board
  pub way : Reaches u b order end
  pub at_rest : IsAtRest u end

-- so each plan has an order, or stuck lanes
abbrev pub PlansComeToRest : Type 0
PlansComeToRest = (u : Universe) (p : Plan) → ComesToRest u (start_board u p)

-- two lists of a plan's stuck lanes are the same
abbrev pub StuckAreOne : Type 0
StuckAreOne =
    (u : Universe) (p : Plan) (lanes others : List ℕ) → AreStuck u p lanes → AreStuck u p others
    → lanes ≡ others

-- where the waits and outputs have an order, no lane is stuck
abbrev pub OrdersLeaveNoneStuck : Type 0
OrdersLeaveNoneStuck =
    (u : Universe) (p : Plan) (order lanes : List ℕ) → IsOrder u p order → AreStuck u p lanes
    → lanes ≡ []
