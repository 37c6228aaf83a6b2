-- Where the lanes stand while an order of their waits and outputs is looked for. The project's own
-- words. Parameters: u a universe, p a plan, l a lane, i a place; order the lanes whose items were
-- made, there the row of the archive then.
--
--   items_at, IsReached         what a lane has left at a place; a board that is reached
--   Makes                       these items of a lane are made
--   Holds, IsHeldAt             a lane waits, or has ended
--   IsAdvance                   a lane goes on as far as it can
--   AreStanding, IsRound        where all lanes stand; they go on in turn
use Rattle.std.specs.Prelude.{◌≡◌, ℕ, ◌-◌, ◌<◌, ◌≤◌, Bool, true, false, ◌==◌, List, ◌++◌, length, drop, Some, slice_index_or, if◌then◌else◌}
use Rattle.farm_model.specs.Common.{sum_below, Universe, names}
use Rattle.farm_model.specs.declared.types.Variant.{Variant}
use Rattle.plan_model.specs.Common.{Plan, lane, instruction_at, passes, OrderItem, items_of, items, Board, start_board, on_board, rest_of, Reaches}
use Rattle.plan_model.specs.declared.instructions.Instruction.{Instruction}
use Rattle.plan_model.specs.declared.instructions.Instruction.TheVariants.{Wait}
use Rattle.sat_rows.specs.Rows.{IsRowOf}
use Rattle.wait_order.specs.declared.standing.Standing.{Standing}

-- what lane l has left of its waits and outputs at place i
abbrev pub items_at : Universe → Plan → ℕ → ℕ → List OrderItem
items_at u p l i = items u (drop i (lane p l).instructions)

-- the list leads to a board with this archive, on which the lanes have left what `left` says
pub record IsReached (u : Universe) (p : Plan) (order there : List ℕ) (left : ℕ → List OrderItem)
    : Type 0 where
  pub board : Board
  pub way : Reaches u (start_board u p) order board
  pub long : length board.rest ≡ length p
  pub rest : (l : ℕ) → l < length p → rest_of board l ≡ left l
  pub archive : IsRowOf u (on_board u board) there

-- with something else left in lane l
abbrev pub with_left : (ℕ → List OrderItem) → ℕ → List OrderItem → ℕ → List OrderItem
with_left left l is k = if k == l then is else left k

-- where lane l has these items ahead, they are made
abbrev pub Makes : Universe → ℕ → List OrderItem → List ℕ → List ℕ → List ℕ → List ℕ → Type 0
Makes u l is order there next_order next_there =
    (p : Plan) (left : ℕ → List OrderItem) (more : List OrderItem) → l < length p
    → IsReached u p order there left → left l ≡ is ++ more
    → IsReached u p next_order next_there (with_left left l more)

-- the instruction is a wait that nothing in the archive satisfies
abbrev pub Holds : Universe → List ℕ → Instruction → Type 0
Holds u there (Wait e) = (test : Variant → Bool) → IsRowOf u test there → passes u test e ≡ false
Holds u there _ = ⊥

-- the lane has ended there, or waits
abbrev pub IsHeldAt : Universe → Plan → ℕ → ℕ → List ℕ → Type 0
IsHeldAt u p l i there = (x : Instruction) → instruction_at p l i ≡ Some x → Holds u there x

-- of an instruction: its items are made, or it waits and nothing changes
pub record IsMade (u : Universe) (l : ℕ) (x : Instruction) (order there next_order : List ℕ)
    (next_there : List ℕ) (made : Bool) : Type 0 where
  pub long : length next_there ≡ names u
  pub makes : made ≡ true → Makes u l (items_of u x) order there next_order next_there
  pub holds : made ≡ false → Holds u there x
  pub same : made ≡ false → (next_order ≡ order) × (next_there ≡ there)

-- the place is one of the lane
pub record IsStanding (u : Universe) (p : Plan) (l : ℕ) (at : Standing) : Type 0 where
  pub within : at.place ≤ length (lane p l).instructions

-- where lane l stands at place i, it goes on to place j
abbrev pub Leads : Universe → Plan → ℕ → ℕ → ℕ → List ℕ → List ℕ → List ℕ → List ℕ → Type 0
Leads u p l i j order there next_order next_there =
    (left : ℕ → List OrderItem) → IsReached u p order there left → left l ≡ items_at u p l i
    → IsReached u p next_order next_there (with_left left l (items_at u p l j))

-- a lane goes on as far as it can
pub record IsAdvance (u : Universe) (p : Plan) (l : ℕ) (at next : Standing)
    (order there next_order next_there : List ℕ) (moved : Bool) : Type 0 where
  pub standing : IsStanding u p l next
  pub long : length next_there ≡ names u
  pub on : at.place ≤ next.place
  pub moves : moved ≡ true → at.place < next.place
  pub same : moved ≡ false
      → (next.place ≡ at.place) × (next_order ≡ order) × (next_there ≡ there)
  pub leads : Leads u p l at.place next.place order there next_order next_there
  pub held : IsHeldAt u p l next.place next_there

-- what is read past the last lane
abbrev pub no_standing : Standing
no_standing = record { place = 0 }

-- the place of a lane
abbrev pub place_of : List Standing → ℕ → ℕ
place_of ats l = (slice_index_or ats l no_standing).place

-- a place for each lane
pub record AreStanding (u : Universe) (p : Plan) (ats : List Standing) : Type 0 where
  pub long : length ats ≡ length p
  pub each : (l : ℕ) → l < length p → IsStanding u p l (slice_index_or ats l no_standing)

-- what the lanes have left
abbrev pub left_of : Universe → Plan → List Standing → ℕ → List OrderItem
left_of u p ats l = items_at u p l (place_of ats l)

-- how many instructions are left
abbrev pub ahead : Plan → List Standing → ℕ → ℕ
ahead p ats l = length (lane p l).instructions - place_of ats l

unfoldable pub all_ahead : Plan → List Standing → ℕ
all_ahead p ats = sum_below (length p) (ahead p ats)

-- the lanes below n go on in turn
pub record IsRound (u : Universe) (p : Plan) (ats next : List Standing)
    (order there next_order next_there : List ℕ) (n : ℕ) (moved : Bool) : Type 0 where
  pub standing : AreStanding u p next
  pub long : length next_there ≡ names u
  pub reached : IsReached u p order there (left_of u p ats)
      → IsReached u p next_order next_there (left_of u p next)
  pub no_more : all_ahead p next ≤ all_ahead p ats
  pub fewer : moved ≡ true → all_ahead p next < all_ahead p ats
  pub held : moved ≡ false → (l : ℕ) → l < n → IsHeldAt u p l (place_of next l) next_there
