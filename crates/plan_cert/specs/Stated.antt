-- The known rows that a certificate states. The project's own rules. Parameters: u a universe, p a
-- plan, c a certificate, l a lane, i a place.
--
--   rows_before        how many rows are listed for a lane before a place
--   HeldRows, held_at  the rows that hold at a place, and ahead of the `when` that is open there
--   last_row_lists     a variant is in the last of so many rows
--   stated_rows        what each lane knows at each place, as the certificate has it
use Rattle.std.specs.Prelude.{ℕ, zero, suc, Bool, false, ◌||◌, List, [], take, count_by, Option, Some, None, slice_index_or}
use Rattle.bit_rows.specs.Sets.{variants_of}
use Rattle.cert_text.specs.Certificates.{Certificate, lane_rows}
use Rattle.farm_model.specs.Common.{Universe, initial}
use Rattle.farm_model.specs.declared.types.Variant.{Variant}
use Rattle.plan_model.specs.Common.{Side, Outside, InFirst, InSecond, side_at, Rows, teaches, Plan, lane, instruction_at}
use Rattle.plan_model.specs.declared.instructions.Instruction.{Instruction}
use Rattle.plan_model.specs.declared.instructions.Instruction.TheVariants.{Publish, Wait, When, Otherwise, EndWhen}

-- one row behind each wait, publish and `when`
abbrev pub rows_before : Plan → ℕ → ℕ → ℕ
rows_before p l i = count_by teaches (take i (lane p l).instructions)

-- of the rows up to the one that holds their number, 0 where none does: at a place, and ahead of
-- the `when` that is open there
pub record HeldRows : Type 0 where
  pub here : ℕ
  pub ahead : ℕ

-- a branch ends with what held ahead of its `when`
abbrev pub branch_ended : Side → HeldRows → HeldRows
branch_ended Outside held = held
branch_ended (InFirst w) held = record { here = held.ahead; ahead = held.ahead }
branch_ended (InSecond w) held = record { here = held.ahead; ahead = held.ahead }

-- behind an instruction, up to which so many rows are listed: that of a `when` holds in its first
-- branch alone
abbrev pub held_behind : Side → ℕ → HeldRows → Instruction → HeldRows
held_behind s listed held (Publish r) = record { here = listed; ahead = held.ahead }
held_behind s listed held (Wait e) = record { here = listed; ahead = held.ahead }
held_behind s listed held (When name wanted) = record { here = listed; ahead = held.here }
held_behind s listed held Otherwise = branch_ended s held
held_behind s listed held EndWhen = branch_ended s held
held_behind s listed held _ = held

-- behind the instruction that is there, if any
abbrev pub held_behind_some : Side → ℕ → HeldRows → Option Instruction → HeldRows
held_behind_some s listed held None = held
held_behind_some s listed held (Some x) = held_behind s listed held x

abbrev pub held_at : Plan → ℕ → ℕ → HeldRows
held_at p l zero = record { here = 0; ahead = 0 }
held_at p l (suc i) = held_behind_some (side_at (lane p l).instructions i)
    (rows_before p l (suc i)) (held_at p l i) (instruction_at p l i)

-- the variants of a row
abbrev pub in_row : List ℕ → Variant → Bool
in_row row v = variants_of row v.name v.bit

-- the last of the first so many rows has the variant
abbrev pub last_row_lists : List (List ℕ) → ℕ → Variant → Bool
last_row_lists rows zero v = false
last_row_lists rows (suc k) v = in_row (slice_index_or rows k []) v

-- at each place the row that holds there: that behind the last wait, publish or `when`; behind an
-- `else` and an `end` the one ahead of their `when`
abbrev pub listed_rows : Plan → Certificate → Rows
listed_rows p c l i v = last_row_lists (lane_rows c l) (held_at p l i).here v

-- and the initial archive
abbrev pub stated_rows : Universe → Plan → Certificate → Rows
stated_rows u p c l i v = initial u v || listed_rows p c l i v
