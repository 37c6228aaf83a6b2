-- The first run of a part, and what stands behind it: what one turn of the comparison takes.
use Rattle.std.specs.Prelude.{ℕ, ◌==◌, Bool, not, List, [], ◌∷◌, if◌then◌else◌}
use Rattle.deb_text.specs.Common.{is_digit, front, behind}
use Rattle.deb_version.specs.Order.{Run, end_rank, rank_of}

abbrev pub is_other : ℕ → Bool
is_other b = not (is_digit b)

abbrev pub is_zero : ℕ → Bool
is_zero b = b == 48

-- the weight at the front: a word ends at a digit and at the end
abbrev pub front_rank : List ℕ → ℕ
front_rank [] = end_rank
front_rank (b ∷ bs) = if is_digit b then end_rank else rank_of b

abbrev pub first_run : List ℕ → Run
first_run bs = record { word = front is_other bs; digits = front is_digit (behind is_other bs) }

abbrev pub after_run : List ℕ → List ℕ
after_run bs = behind is_digit (behind is_other bs)
