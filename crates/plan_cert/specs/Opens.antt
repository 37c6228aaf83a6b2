-- The `when` in whose branches a place lies, and what an instruction looks for as a row. The
-- project's own words. Parameters: u a universe, p a plan, l a lane, i a place.
--
--   open_of, open_at      the place of the open `when`, if one is
--   open_behind           the same behind an instruction
--   place_before          the place from whose row what is known goes on
--   IsAskedRow            the row of what a wait or a `when` looks for
use Rattle.std.specs.Prelude.{◌≡◌, ℕ, Bool, List, Option, Some, None}
use Rattle.farm_model.specs.Universe.{Universe}
use Rattle.farm_model.specs.declared.types.Variant.{Variant}
use Rattle.plan_model.specs.Common.{Side, Outside, InFirst, InSecond, side_at, Plan, lane}
use Rattle.plan_model.specs.declared.instructions.Instruction.{Instruction}
use Rattle.plan_model.specs.declared.instructions.Instruction.TheVariants.{When, Otherwise, EndWhen}
use Rattle.sat_rows.specs.Rows.{IsRowOf}
use Rattle.known_rows.specs.Points.{asked}

abbrev pub open_of : Side → Option ℕ
open_of Outside = None
open_of (InFirst w) = Some w
open_of (InSecond w) = Some w

abbrev pub open_at : Plan → ℕ → ℕ → Option ℕ
open_at p l i = open_of (side_at (lane p l).instructions i)

-- behind the instruction at a place
abbrev pub open_behind : ℕ → Option ℕ → Instruction → Option ℕ
open_behind i o (When name wanted) = Some i
open_behind i o EndWhen = None
open_behind i o _ = o

-- the open `when`, or else the place itself
abbrev pub or_here : ℕ → Option ℕ → ℕ
or_here i None = i
or_here i (Some w) = w

-- behind the instruction at a place
abbrev pub place_before : ℕ → Option ℕ → Instruction → ℕ
place_before i o Otherwise = or_here i o
place_before i o EndWhen = or_here i o
place_before i o _ = i

-- the row of what the instruction looks for, if it does
abbrev pub IsAskedRow : Universe → Instruction → Option (List ℕ) → Type 0
IsAskedRow u x None = asked u x ≡ None
IsAskedRow u x (Some row) = (test : Variant → Bool) × (asked u x ≡ Some test) × IsRowOf u test row
