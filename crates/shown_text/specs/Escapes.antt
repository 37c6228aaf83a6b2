-- Bytes as lines show them. The project's own format.
--
--   escaped bytes     as lines have them
--   quoted bytes      as these lines stand in a string of JSON (RFC 8259)
use Rattle.std.specs.Prelude.{ℕ, ◌/◌, ◌%◌, Bool, true, false, not, ◌&&◌, ◌||◌, ◌==◌, nat_le, if◌then◌else◌, List, [], ◌∷◌, ◌++◌, codes, flat_map}
use Rattle.std.specs.Char.{digit_char}

-- printable ASCII but the backslash
abbrev pub is_plain : ℕ → Bool
is_plain byte = nat_le 32 byte && nat_le byte 126 && not (byte == 92)

-- a plain byte as it is, and another as `\x` and two hexadecimal digits
unfoldable pub escaped_byte : ℕ → List ℕ
escaped_byte byte =
    if is_plain byte then byte ∷ []
    else 92 ∷ 120 ∷ digit_char (byte / 16) ∷ digit_char (byte % 16) ∷ []

abbrev pub escaped : List ℕ → List ℕ
escaped bytes = flat_map escaped_byte bytes

-- a backslash ahead of a quotation mark, and of the one with which an escaped byte begins
abbrev pub quote_mark : ℕ → List ℕ
quote_mark byte = if byte == 34 || not (is_plain byte) then codes "\\" else []

abbrev pub quoted_byte : ℕ → List ℕ
quoted_byte byte = quote_mark byte ++ escaped_byte byte

-- quoted, or not
abbrev pub shown_byte : Bool → ℕ → List ℕ
shown_byte true = quoted_byte
shown_byte false = escaped_byte

abbrev pub quoted : List ℕ → List ℕ
quoted bytes = flat_map quoted_byte bytes
