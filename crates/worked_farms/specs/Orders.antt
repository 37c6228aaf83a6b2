-- What lists of lanes come to on the board of a plan's waits and outputs. Parameters: u a universe,
-- p a plan, b a board.
--
--   played                 the board after these lanes' items, one after another
--   lanes_going            the lanes whose next item can be made
--   left_after             the lanes that have something left behind such a list
use Rattle.std.specs.Prelude.{ℕ, Bool, true, false, List, [], ◌∷◌, length, Option, Some, None}
use Rattle.std.specs.List.{filter, range_with_len}
use Rattle.farm_model.specs.Universe.{Universe}
use Rattle.plan_model.specs.Common.{Plan, Board, start_board, rest_of, board_after}
use Rattle.verdict_laws.specs.Stuck.{lanes_left}

-- goes on with the board, if there is one
abbrev pub on_board_of : {A : Type 0} → Option Board → (Board → Option A) → Option A
on_board_of None f = None
on_board_of (Some b) f = f b

-- none where an item cannot be made, or a lane has none left
abbrev pub played : Universe → Board → List ℕ → Option Board
played u b [] = Some b
played u b (l ∷ ls) = on_board_of (board_after u b l (rest_of b l)) (λ m. played u m ls)

abbrev pub is_board : Option Board → Bool
is_board None = false
is_board (Some b) = true

-- the lanes, in file order, whose next item can be made
abbrev pub lanes_going : Universe → Board → List ℕ
lanes_going u b =
    filter (λ l. is_board (board_after u b l (rest_of b l))) (range_with_len 0 (length b.rest))

-- the lanes that have something left, once these lanes' items are made on the start board
abbrev pub left_after : Universe → Plan → List ℕ → Option (List ℕ)
left_after u p lanes = on_board_of (played u (start_board u p) lanes) (λ b. Some (lanes_left b))
