-- The greatest known rows along a lane. The project's own rules.
use Rattle.std.specs.Prelude.{◌≡◌, ℕ, suc, ◌<◌, ◌≤◌, true, length, Some}
use Rattle.farm_model.specs.Common.{Universe, initial}
use Rattle.farm_model.specs.declared.types.Variant.{Variant}
use Rattle.plan_model.specs.Common.{Plan, lane, instruction_at, Rows, row_before, IsGreatest}
use Rattle.plan_model.specs.declared.instructions.Instruction.{Instruction}

-- Of the greatest rows, at the plan's places:
pub record IsCarried (u : Universe) (p : Plan) (rows : Rows) : Type 0 where
  -- each has the initial archive;
  pub initial_known : (l i : ℕ) (v : Variant) → l < length p
      → i ≤ length (lane p l).instructions → initial u v ≡ true → rows l i v ≡ true
  -- and what is known ahead of an instruction is known behind it; what is known ahead of a `when`
  -- is known behind its `else` and behind its `end`.
  pub kept : (l i : ℕ) (x : Instruction) (v : Variant) → l < length p
      → instruction_at p l i ≡ Some x → rows l (row_before p l i x) v ≡ true
      → rows l (suc i) v ≡ true

abbrev pub GreatestIsCarried : Type 0
GreatestIsCarried =
    (u : Universe) (p : Plan) (rows : Rows) → IsGreatest u p rows → IsCarried u p rows
