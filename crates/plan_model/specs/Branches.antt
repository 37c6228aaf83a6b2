-- The branches of a lane: `when`, the instructions of its first branch, `else`, those of its second
-- one, `end`. The project's own rules. Parameters: xs the instructions of a lane, k a place.
--
--   Side, side_at               in which branch of which `when` a place lies
--   home                        the place of that `when`
--   may_stand, IsBranched       what may stand in a branch; lanes whose branches are whole
--   past_else, past_end         the place behind the next `else`, and behind the next `end`
--   landing                     where a lane that comes to a place goes on
use Rattle.std.specs.Prelude.{◌≡◌, ℕ, zero, suc, Bool, true, false, List, [], ◌∷◌, length, drop, Option, Some, None, slice_get}
use Rattle.plan_model.specs.declared.instructions.Instruction.{Instruction}
use Rattle.plan_model.specs.declared.instructions.Instruction.TheVariants.{Publish, Wait, When, Otherwise, EndWhen}

-- a place lies outside of all branches, or in the first or the second branch of the `when` at a
-- place
pub data Side : Type 0 where
  Outside : Side
  InFirst : (at : ℕ) → Side
  InSecond : (at : ℕ) → Side

-- behind an `else`
abbrev pub second_of : Side → Side
second_of (InFirst w) = InSecond w
second_of s = s

-- behind the instruction at place k
abbrev pub side_behind : ℕ → Side → Instruction → Side
side_behind k s (When name wanted) = InFirst k
side_behind k s Otherwise = second_of s
side_behind k s EndWhen = Outside
side_behind k s _ = s

abbrev pub side_behind_some : ℕ → Side → Option Instruction → Side
side_behind_some k s None = s
side_behind_some k s (Some x) = side_behind k s x

-- where the place lies
abbrev pub side_at : List Instruction → ℕ → Side
side_at xs zero = Outside
side_at xs (suc k) = side_behind_some k (side_at xs k) (slice_get xs k)

-- the place of the `when` in one of whose branches a place lies; outside, the place itself
abbrev pub home : Side → ℕ → ℕ
home Outside k = k
home (InFirst w) k = w
home (InSecond w) k = w

-- what stands in a branch: neither a publish, nor a wait, nor another `when`. A first branch ends
-- by `else`, a second one by `end`
abbrev pub may_stand : Side → Instruction → Bool
may_stand Outside Otherwise = false
may_stand Outside EndWhen = false
may_stand Outside _ = true
may_stand (InFirst w) (Publish r) = false
may_stand (InFirst w) (Wait e) = false
may_stand (InFirst w) (When name wanted) = false
may_stand (InFirst w) EndWhen = false
may_stand (InFirst w) _ = true
may_stand (InSecond w) (Publish r) = false
may_stand (InSecond w) (Wait e) = false
may_stand (InSecond w) (When name wanted) = false
may_stand (InSecond w) Otherwise = false
may_stand (InSecond w) _ = true

-- each instruction may stand where it does, and each `when` has its `end`
pub record IsBranched (xs : List Instruction) : Type 0 where
  pub stands : (k : ℕ) (x : Instruction) → slice_get xs k ≡ Some x
      → may_stand (side_at xs k) x ≡ true
  pub closed : side_at xs (length xs) ≡ Outside

-- the place behind the next `else`; these are the instructions from place k on
abbrev pub past_else : List Instruction → ℕ → ℕ
past_else [] k = k
past_else (Otherwise ∷ xs) k = suc k
past_else (x ∷ xs) k = past_else xs (suc k)

-- the place behind the next `end`
abbrev pub past_end : List Instruction → ℕ → ℕ
past_end [] k = k
past_end (EndWhen ∷ xs) k = suc k
past_end (x ∷ xs) k = past_end xs (suc k)

-- no lane stands just before an `else` or an `end`: from there it goes on behind the `end`
abbrev pub landing_before : List Instruction → ℕ → ℕ
landing_before (Otherwise ∷ xs) k = past_end xs (suc k)
landing_before (EndWhen ∷ xs) k = suc k
landing_before xs k = k

-- where a lane that comes to a place goes on
unfoldable pub landing : List Instruction → ℕ → ℕ
landing xs k = landing_before (drop k xs) k
