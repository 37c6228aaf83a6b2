-- The bytes that control data is made of. A byte is its number.
use Rattle.std.specs.Prelude.{ℕ, Bool, not, ◌==◌, ◌||◌, ◌&&◌, nat_le}

abbrev pub is_byte : ℕ → ℕ → Bool
is_byte wanted b = b == wanted

abbrev pub is_newline : ℕ → Bool
is_newline b = b == 10

-- a space or a tab
abbrev pub is_space : ℕ → Bool
is_space b = b == 32 || b == 9

-- a space, a tab or a newline
abbrev pub is_blank : ℕ → Bool
is_blank b = b == 32 || b == 9 || b == 10

abbrev pub is_solid : ℕ → Bool
is_solid b = not (is_blank b)

-- 0 to 9
abbrev pub is_digit : ℕ → Bool
is_digit b = nat_le 48 b && nat_le b 57

-- a to z and 0 to 9
abbrev pub is_lower : ℕ → Bool
is_lower b = nat_le 97 b && nat_le b 122 || is_digit b

-- a to z, 0 to 9 and + - . (Policy 5.6.1, 5.6.7)
abbrev pub is_name_byte : ℕ → Bool
is_name_byte b = is_lower b || b == 43 || b == 45 || b == 46

-- a to z, 0 to 9 and -
abbrev pub is_qualifier_byte : ℕ → Bool
is_qualifier_byte b = is_lower b || b == 45

-- < = >
abbrev pub is_operator_byte : ℕ → Bool
is_operator_byte b = b == 60 || b == 61 || b == 62

-- all but blanks and `)`
abbrev pub is_version_byte : ℕ → Bool
is_version_byte b = not (is_blank b || b == 41)

-- all but blanks and < > ! , | ( ) [ ]
abbrev pub is_word_byte : ℕ → Bool
is_word_byte b =
    not (is_blank b || b == 60 || b == 62 || b == 33 || b == 44 || b == 124 || b == 40 || b == 41
    || b == 91 || b == 93)
