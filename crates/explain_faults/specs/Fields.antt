-- The refusals of a text for one of its fields.
--
--   is_of_field code     a text is refused with this code for a field
use Rattle.std.specs.Prelude.{ℕ, Bool, ◌&&◌, ◌||◌, ◌==◌, nat_le}

-- a version, a relation or words that cannot be read, a field that is absent, another value
abbrev pub is_of_field : ℕ → Bool
is_of_field code =
    nat_le 111 code && nat_le code 114 || nat_le 121 code && nat_le code 131
    || code == 201 || code == 202
