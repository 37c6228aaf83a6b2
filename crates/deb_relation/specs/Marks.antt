-- The bytes that divide a relation field, and those that its parts begin and end with.
use Rattle.std.specs.Prelude.{ℕ}

-- ,
abbrev pub comma : ℕ
comma = 44

-- |
abbrev pub bar : ℕ
bar = 124

-- :
abbrev pub colon : ℕ
colon = 58

-- !
abbrev pub bang : ℕ
bang = 33

-- <
abbrev pub less : ℕ
less = 60

-- =
abbrev pub equals : ℕ
equals = 61

-- >
abbrev pub greater : ℕ
greater = 62

-- (
abbrev pub open_round : ℕ
open_round = 40

-- )
abbrev pub close_round : ℕ
close_round = 41

-- [
abbrev pub open_square : ℕ
open_square = 91

-- ]
abbrev pub close_square : ℕ
close_square = 93
