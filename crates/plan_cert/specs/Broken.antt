-- Where a list of lanes is no order of their waits and outputs. The project's own rules.
-- Parameters: u a universe, p a plan, done how many items of the list are made, one after another.
--
--   CannotStep            the next item of the list cannot be made
--   LeavesSome            the list ends, and a lane has something left
--   IsBrokenAt            the number of that item, or one more than their number
--   IsOrderChecked        what a check of the list comes to
use Rattle.std.specs.Prelude.{◌≡◌, ◌≢◌, ◌⊎◌, ℕ, ◌+◌, ◌<◌, List, [], length, take, None, slice_index, Result, Ok, Err}
use Rattle.cert_text.specs.declared.fault.CertFault.{CertFault}
use Rattle.cert_text.specs.declared.fault.CertFault.TheVariants.{Text, Row, Unsafe, Uneven, Order, Memory}
use Rattle.farm_model.specs.Universe.{Universe}
use Rattle.plan_model.specs.Common.{Board, start_board, rest_of, board_after, Reaches, IsOrder, Plan}

-- its lane waits, has nothing left, or is none of the plan
pub record CannotStep (u : Universe) (p : Plan) (order : List ℕ) (done : ℕ) : Type 0 where
  pub board : Board
  pub within : done < length order
  pub way : Reaches u (start_board u p) (take done order) board
  pub stops : board_after u board (slice_index order done)
      (rest_of board (slice_index order done)) ≡ None

pub record LeavesSome (u : Universe) (p : Plan) (order : List ℕ) (done : ℕ) : Type 0 where
  pub board : Board
  pub ended : done ≡ length order
  pub way : Reaches u (start_board u p) order board
  pub lane : ℕ
  pub left : rest_of board lane ≢ []

-- items count from 1
abbrev pub IsBrokenAt : Universe → Plan → List ℕ → ℕ → Type 0
IsBrokenAt u p order item =
    (done : ℕ) × (item ≡ done + 1) × (CannotStep u p order done ⊎ LeavesSome u p order done)

-- the list is an order, or it is broken at this item, unless memory ran out
abbrev pub IsOrderChecked : Universe → Plan → List ℕ → Result Unit CertFault → Type 0
IsOrderChecked u p order (Ok done) = IsOrder u p order
IsOrderChecked u p order (Err (Order item)) = IsBrokenAt u p order item
IsOrderChecked u p order (Err Memory) = Unit {0}
IsOrderChecked u p order (Err (Text line)) = ⊥
IsOrderChecked u p order (Err (Row l number)) = ⊥
IsOrderChecked u p order (Err (Unsafe l number trap)) = ⊥
IsOrderChecked u p order (Err (Uneven l number)) = ⊥
