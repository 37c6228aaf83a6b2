-- The tests and changes of two rows as functions that compute, word by word. `Rows` says what they
-- mean.
--
--   hits, met, within, same_rows   tests
--   joined, common, remaining      rows
use Rattle.std.specs.Prelude.{◌==◌, not, ◌&&◌, ℕ, Bool, List, bit_and, bit_or, bit_xor}
use Rattle.std.specs.List.{list_all, list_any}
use Rattle.std.specs.Simd.Lanes.{zip2}

-- some pair of words at one position passes
abbrev pub some_pair : (ℕ → ℕ → Bool) → List ℕ → List ℕ → Bool
some_pair test a b = list_any (λ passes. passes) (zip2 test a b)

-- each pair of words at one position passes
abbrev pub every_pair : (ℕ → ℕ → Bool) → List ℕ → List ℕ → Bool
every_pair test a b = list_all (λ passes. passes) (zip2 test a b)

-- x and y have a bit in common
abbrev pub shares_bit : ℕ → ℕ → Bool
shares_bit x y = not (bit_and x y == 0)

-- each bit of x is one of y
abbrev pub lies_in : ℕ → ℕ → Bool
lies_in x y = bit_and x y == x

-- x has a bit, and each of its bits is one of y
abbrev pub meets : ℕ → ℕ → Bool
meets x y = not (x == 0) && lies_in x y

-- the bits of x that y lacks
abbrev pub bits_left : ℕ → ℕ → ℕ
bits_left x y = bit_xor x (bit_and x y)

-- some position has a bit set in both
abbrev pub hits : List ℕ → List ℕ → Bool
hits = some_pair shares_bit

-- some position of a has a bit, and each of its bits is one of b
abbrev pub met : List ℕ → List ℕ → Bool
met = some_pair meets

-- each bit of a is one of b
abbrev pub within : List ℕ → List ℕ → Bool
within = every_pair lies_in

-- the rows are equal
abbrev pub same_rows : List ℕ → List ℕ → Bool
same_rows = every_pair ◌==◌

-- the bits of a or b
abbrev pub joined : List ℕ → List ℕ → List ℕ
joined = zip2 bit_or

-- the bits of both
abbrev pub common : List ℕ → List ℕ → List ℕ
common = zip2 bit_and

-- the bits of a that b lacks
abbrev pub remaining : List ℕ → List ℕ → List ℕ
remaining = zip2 bits_left
