-- Tests, sums and choices over the numbers below n: the project's own words for "some name", "every
-- name" and the like, as tests that compute.
--
--   some_below, every_below           some number passes; each number passes
--   sum_below                         a sum over the numbers
--   greatest_below, highest_below     the greatest value; the highest number
use Rattle.std.specs.Prelude.{ℕ, zero, suc, ◌+◌, max, Bool, true, false, ◌&&◌, ◌||◌, Option, Some, None, if◌then◌else◌}

-- some number below n passes
abbrev pub some_below : ℕ → (ℕ → Bool) → Bool
some_below zero p = false
some_below (suc n) p = p n || some_below n p

-- each number below n passes
abbrev pub every_below : ℕ → (ℕ → Bool) → Bool
every_below zero p = true
every_below (suc n) p = p n && every_below n p

-- the sum of f over the numbers below n
abbrev pub sum_below : ℕ → (ℕ → ℕ) → ℕ
sum_below zero f = 0
sum_below (suc n) f = f n + sum_below n f

-- the greatest f among the numbers below n that pass, or 0
abbrev pub greatest_below : ℕ → (ℕ → Bool) → (ℕ → ℕ) → ℕ
greatest_below zero p f = 0
greatest_below (suc n) p f = max (if p n then f n else 0) (greatest_below n p f)

-- the highest number below n that passes
abbrev pub highest_below : ℕ → (ℕ → Bool) → Option ℕ
highest_below zero p = None
highest_below (suc n) p = if p n then Some n else highest_below n p
