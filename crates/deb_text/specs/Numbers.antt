-- Numbers in decimal digits.
use Rattle.std.specs.Prelude.{ℕ, ◌+◌, ◌-◌, ◌*◌, Bool, not, ◌&&◌, nat_le, List, length, fold, if◌then◌else◌, Option, Some, None}
use Rattle.std.specs.List.{list_all}
use Rattle.deb_text.specs.Bytes.{is_digit}
use Rattle.deb_text.specs.Cuts.{is_nil}

-- what digits spell; no digits count as 0
abbrev pub number : List ℕ → ℕ
number digits = fold (λ n digit. n * 10 + (digit - 48)) 0 digits

-- 1 to 15 digits
abbrev pub is_number : List ℕ → Bool
is_number text = not (is_nil text) && nat_le (length text) 15 && list_all is_digit text

abbrev pub number_at : List ℕ → Option ℕ
number_at text = if is_number text then Some (number text) else None
