-- In which order the waits and outputs of the lanes can be made: the waits and outputs alone,
-- without chroots and budgets (the project's own rule; a wait is wanna-build's Dep-Wait).
--
--   OrderItem, items            a wait or an output; those of a lane, in turn
--   Board, board_after          what each lane has left, and what was published; one item made
--   IsAtRest                    nothing more goes on the board
--   Reaches, IsOrder            lists of lanes; one that brings each lane past its last item
--   CannotEnd, AreStuck         a lane that no list brings there; all such lanes
use Rattle.std.specs.Prelude.{◌≡◌, ◌≢◌, ℕ, ◌<◌, Bool, ◌||◌, List, [], ◌∷◌, length, map, Option, Some, None, slice_index_or, slice_set, if◌then◌else◌, All, Contains}
use Rattle.std.specs.List.{flat_map}
use Rattle.std.specs.List.Sorted.{IsStrictlyIncreasing}
use Rattle.deb_relation.specs.Relations.{Entry}
use Rattle.farm_model.specs.Common.{Universe, contains, initial, outputs}
use Rattle.farm_model.specs.declared.types.Variant.{Variant}
use Rattle.plan_model.specs.declared.instructions.Instruction.{Instruction}
use Rattle.plan_model.specs.declared.instructions.Instruction.TheVariants.{Publish, Wait}
use Rattle.plan_model.specs.Plan.{Lane, Plan}
use Rattle.plan_model.specs.Turn.{passes}

-- a wait to be passed, or an output to be given
pub data OrderItem : Type 0 where
  Pass : (entry : Entry) → OrderItem
  Give : (output : Variant) → OrderItem

-- the waits and outputs of an instruction
abbrev pub items_of : Universe → Instruction → List OrderItem
items_of u (Publish r) = map Give (outputs u r)
items_of u (Wait e) = Pass e ∷ []
items_of u _ = []

-- those of a list of instructions, in turn
unfoldable pub items : Universe → List Instruction → List OrderItem
items u xs = flat_map (items_of u) xs

-- what each lane has left to do in the archive, and what was published
pub record Board : Type 0 where
  pub rest : List (List OrderItem)
  pub published : List Variant

-- all is left, and nothing is published
abbrev pub start_board : Universe → Plan → Board
start_board u p = record { rest = map (λ (of : Lane). items u of.instructions) p; published = [] }

-- the archive of a board: the initial variants and the published ones
abbrev pub on_board : Universe → Board → Variant → Bool
on_board u b v = initial u v || contains b.published v

-- what a lane has left
abbrev pub rest_of : Board → ℕ → List OrderItem
rest_of b l = slice_index_or b.rest l []

-- the first of these items of lane l made: a wait passes where it can, an output enters the archive
abbrev pub board_after : Universe → Board → ℕ → List OrderItem → Option Board
board_after u b l [] = None
board_after u b l (Pass e ∷ is) =
    if passes u (on_board u b) e then Some
    (record { rest = slice_set b.rest l is; published = b.published }) else None
board_after u b l (Give v ∷ is) =
    Some (record { rest = slice_set b.rest l is; published = v ∷ b.published })

-- these lanes' items, one after another, lead from one board to another
abbrev pub Reaches : Universe → Board → List ℕ → Board → Type 0
Reaches u b [] t = b ≡ t
Reaches u b (l ∷ ls) t = (m : Board) × (board_after u b l (rest_of b l) ≡ Some m) × Reaches u m ls t

-- nobody can make an item
abbrev pub IsAtRest : Universe → Board → Type 0
IsAtRest u b = (l : ℕ) → board_after u b l (rest_of b l) ≡ None

-- an order: this list of lanes brings each lane past its last wait or output
pub record IsOrder (u : Universe) (p : Plan) (order : List ℕ) : Type 0 where
  pub end : Board
  pub way : Reaches u (start_board u p) order end
  pub all_done : (l : ℕ) → rest_of end l ≡ []

-- no list of waits and outputs brings the lane past its last one
abbrev pub CannotEnd : Universe → Plan → ℕ → Type 0
CannotEnd u p l = (order : List ℕ) (end : Board) → Reaches u (start_board u p) order end
    → rest_of end l ≢ []

-- these are all such lanes, in file order
pub record AreStuck (u : Universe) (p : Plan) (lanes : List ℕ) : Type 0 where
  pub stuck : All (λ l. (l < length p) × CannotEnd u p l) lanes
  pub all : (l : ℕ) → l < length p → CannotEnd u p l → Contains lanes l
  pub in_order : IsStrictlyIncreasing lanes
