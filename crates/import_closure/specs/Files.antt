-- The size of the files of a source: rows of a sum, a size and a name (Policy 5.6.21, 5.6.24).
--
--   total_from n rows    n bytes and those of the rows, as far as 64 bits count them
use Rattle.std.specs.Prelude.{ℕ, ◌+◌, ◌-◌, ◌^◌, min, List, [], ◌∷◌, Option, Some, None}
use Rattle.deb_text.specs.Common.{number_at, words}

abbrev pub or_zero : Option ℕ → ℕ
or_zero None = 0
or_zero (Some n) = n

abbrev pub row_bytes : List (List ℕ) → ℕ
row_bytes (sum ∷ size ∷ name ∷ []) = or_zero (number_at size)
row_bytes _ = 0

unfoldable pub total_from : ℕ → List (List ℕ) → ℕ
total_from n [] = n
total_from n (row ∷ rows) = total_from (min (n + row_bytes (words row)) (2 ^ 64 - 1)) rows
