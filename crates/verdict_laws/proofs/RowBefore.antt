-- The row behind an instruction goes on from that of a place no further on.
use Rattle.std.proofs.Common.{ℕ, zero, suc, ◌<◌, ◌≤◌, List, Option, Some, None, slice_get, arith}
use Rattle.plan_model.specs.Common.{Side, Outside, InFirst, InSecond, second_of, side_behind, side_behind_some, side_at, home, Plan, lane, row_before}
use Rattle.plan_model.specs.declared.instructions.Instruction.{Instruction}
use Rattle.plan_model.specs.declared.instructions.Instruction.TheVariants.{When, Otherwise, EndWhen}

-- the `when` that is open stands before the place
abbrev OpensBefore : Side → ℕ → Type 0
OpensBefore Outside k = Unit {0}
OpensBefore (InFirst w) k = w < k
OpensBefore (InSecond w) k = w < k

opens-next : (s : Side) (k : ℕ) → OpensBefore s k → OpensBefore s (suc k)
opens-next Outside k before = tt
opens-next (InFirst w) k before = omega (arith, before)
opens-next (InSecond w) k before = omega (arith, before)

opens-second : (s : Side) (k : ℕ) → OpensBefore s k → OpensBefore (second_of s) k
opens-second Outside k before = tt
opens-second (InFirst w) k before = before
opens-second (InSecond w) k before = before

opens-behind : (s : Side) (k : ℕ) (x : Instruction) → OpensBefore s k
    → OpensBefore (side_behind k s x) (suc k)
opens-behind s k (When name wanted) before = omega arith
opens-behind s k Otherwise before = opens-second s (suc k) (opens-next s k before)
opens-behind s k EndWhen before = tt
opens-behind s k _ before = opens-next s k before

opens-some : (s : Side) (k : ℕ) (o : Option Instruction) → OpensBefore s k
    → OpensBefore (side_behind_some k s o) (suc k)
opens-some s k None before = opens-next s k before
opens-some s k (Some x) before = opens-behind s k x before

opens-before : (xs : List Instruction) (k : ℕ) → OpensBefore (side_at xs k) k
opens-before xs zero = tt
opens-before xs (suc k) = opens-some (side_at xs k) k (slice_get xs k) (opens-before xs k)

home_of : (s : Side) (k : ℕ) → OpensBefore s k → home s k ≤ k
home_of Outside k before = omega arith
home_of (InFirst w) k before = omega (arith, before)
home_of (InSecond w) k before = omega (arith, before)

pub home-before : (xs : List Instruction) (k : ℕ) → home (side_at xs k) k ≤ k
home-before xs k = home_of (side_at xs k) k (opens-before xs k)

pub row_before-le : (p : Plan) (l i : ℕ) (x : Instruction) → row_before p l i x ≤ i
row_before-le p l i Otherwise = home-before (lane p l).instructions i
row_before-le p l i EndWhen = home-before (lane p l).instructions i
row_before-le p l i _ = omega arith

-- what holds at a lane's beginning, and behind an instruction where it holds at each place up to
-- there, holds at each place
pub each_place : (P : ℕ → Type 0) → P 0 → ((i : ℕ) → ((k : ℕ) → k ≤ i → P k) → P (suc i))
    → (i : ℕ) → P i
each_place P first next i = up_to i i (omega arith)
  where
    up_to : (n k : ℕ) → k ≤ n → P k
    up_to n zero le = first
    up_to zero (suc k) le = absurd (omega (arith, le))
    up_to (suc n) (suc k) le = next k (λ j j_le. up_to n j (omega (arith, le, j_le)))
