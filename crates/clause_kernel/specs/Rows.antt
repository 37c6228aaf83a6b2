-- Rows of 64-bit words, by positions and bits. A row is a list of words: one word is one package
-- name, and its bits are that name's variants. Past its end a row reads 0.
--
--   row_has row i k           bit k of word i
--   Hits, Met, Within        what the tests of two rows mean
--   HasEither, HasBoth,
--   HasRest                  what the changes of one row by another mean
use Rattle.std.specs.Prelude.{◌≡◌, ◌==◌, not, ◌&&◌, ◌||◌, ℕ, Bool, IsTrue, List, slice_index}
use Rattle.std.specs.Int.{bit_at}

-- bit k of a word is set
abbrev pub word_has : ℕ → ℕ → Bool
word_has word k = bit_at word k == 1

-- bit k of the word at position i is set
abbrev pub row_has : List ℕ → ℕ → ℕ → Bool
row_has row i k = word_has (slice_index row i) k

-- the same as a fact
abbrev pub Has : List ℕ → ℕ → ℕ → Type 0
Has row i k = IsTrue (row_has row i k)

-- some position has a bit set in both
abbrev pub Hits : List ℕ → List ℕ → Type 0
Hits a b = (i : ℕ) × (k : ℕ) × Has a i k × Has b i k

-- some position of a has a bit set, and all its set bits are set in b
abbrev pub Met : List ℕ → List ℕ → Type 0
Met a b = (i : ℕ) × ((k : ℕ) × Has a i k) × ((k : ℕ) → Has a i k → Has b i k)

-- each bit set in a is set in b
abbrev pub Within : List ℕ → List ℕ → Type 0
Within a b = (i k : ℕ) → Has a i k → Has b i k

-- new has the bits that a or b has
abbrev pub HasEither : List ℕ → List ℕ → List ℕ → Type 0
HasEither a b new = (i k : ℕ) → row_has new i k ≡ (row_has a i k || row_has b i k)

-- new has the bits that a and b both have
abbrev pub HasBoth : List ℕ → List ℕ → List ℕ → Type 0
HasBoth a b new = (i k : ℕ) → row_has new i k ≡ (row_has a i k && row_has b i k)

-- new has the bits of a that b lacks
abbrev pub HasRest : List ℕ → List ℕ → List ℕ → Type 0
HasRest a b new = (i k : ℕ) → row_has new i k ≡ (row_has a i k && not (row_has b i k))
