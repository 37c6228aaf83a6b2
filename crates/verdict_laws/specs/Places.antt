-- The inclusions of known rows, place by place. The project's own rules. Parameters: u a universe,
-- p a plan, rows what its lanes know, l a lane, i a place.
--
--   IsJustified                    the inclusion that the row of one place keeps to
--   is_justified, EachTestIsExact  its test, and what the test is worth
--   KeepingIsByPlace               all places together
--   IsFirstUnjustified             the first place whose row does not
use Rattle.std.specs.Prelude.{◌≡◌, ◌⊎◌, ◌↔◌, ℕ, zero, suc, ◌<◌, ◌≤◌, Bool, true, not, ◌||◌, length, Some}
use Rattle.farm_model.specs.Common.{Universe, initial}
use Rattle.farm_model.specs.declared.types.Variant.{Variant}
use Rattle.plan_model.specs.Common.{Plan, lane, instruction_at, Rows, Adds, row_before, KeepsRows, IsSound}
use Rattle.plan_model.specs.declared.instructions.Instruction.{Instruction}
use Rattle.verdict_laws.specs.Greatest.{every_variant, allowed, is_settled, AreKnown}

-- the row of a place has no more than it may: that of a lane's beginning the initial archive, and
-- that behind an instruction what was known ahead of it (behind an `else` and an `end` ahead of
-- their `when`) and what the instruction adds
abbrev pub IsJustified : Universe → Plan → Rows → ℕ → ℕ → Type 0
IsJustified u p rows l zero = (v : Variant) → rows l 0 v ≡ true → initial u v ≡ true
IsJustified u p rows l (suc i) =
    (x : Instruction) (v : Variant) → instruction_at p l i ≡ Some x → rows l (suc i) v ≡ true
    → (rows l (row_before p l i x) v ≡ true) ⊎ Adds u p rows l i v x

-- each variant of the row is allowed there
unfoldable pub is_justified : Universe → Plan → Rows → ℕ → ℕ → Bool
is_justified u p rows l i = every_variant u (λ v. not (rows l i v) || allowed u p rows l i v)

-- of rows of known variants the test passes at a place of the plan exactly where the inclusion
-- holds there
abbrev pub EachTestIsExact : Type 0
EachTestIsExact =
    (u : Universe) (p : Plan) (rows : Rows) → IsSound u p → AreKnown u rows → (l i : ℕ)
    → l < length p → i ≤ length (lane p l).instructions
    → (is_justified u p rows l i ≡ true) ↔ IsJustified u p rows l i

-- rows keep to the inclusions exactly where each row of the plan does
abbrev pub KeepingIsByPlace : Type 0
KeepingIsByPlace =
    (u : Universe) (p : Plan) (rows : Rows)
    → KeepsRows u p rows ↔ ((l i : ℕ) → l < length p → IsJustified u p rows l i)

-- rows of known variants keep to the inclusions exactly where the test of all places passes
abbrev pub SettledRowsAreKeeping : Type 0
SettledRowsAreKeeping =
    (u : Universe) (p : Plan) (rows : Rows) → IsSound u p → AreKnown u rows
    → (is_settled u p rows ≡ true) ↔ KeepsRows u p rows

-- the row of this place is the first that is not justified, of the first lane that has one. Where
-- the place is not a lane's beginning, it is also the number, from 1, of the instruction before it
pub record IsFirstUnjustified (u : Universe) (p : Plan) (rows : Rows) (l i : ℕ) : Type 0 where
  pub in_plan : l < length p
  pub here : ¬ IsJustified u p rows l i
  pub before : (k : ℕ) → k < i → IsJustified u p rows l k
  pub lanes_before : (j k : ℕ) → j < l → IsJustified u p rows j k

-- there is one such place at most
abbrev pub FirstUnjustifiedIsOne : Type 0
FirstUnjustifiedIsOne =
    (u : Universe) (p : Plan) (rows : Rows) (l i k j : ℕ) → IsFirstUnjustified u p rows l i
    → IsFirstUnjustified u p rows k j → (l ≡ k) × (i ≡ j)
