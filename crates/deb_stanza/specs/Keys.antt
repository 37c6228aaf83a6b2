-- The keys of names, by which fields are looked for. Only clauses of private functions cite this
-- file.
--
--   key_of      the key of a name
--   text_key    the key of a field's text
--   has_colon   a text has a colon, so that it keeps its name where it goes on
--   StandBelow  for each key how many fields there are up to the last that has it
--   is_named    the front of a line that may be a name is one, by what stands behind it
use Rattle.std.specs.Prelude.{ℕ, ◌+◌, ◌-◌, ◌*◌, ◌%◌, ◌<◌, Bool, not, ◌&&◌, nat_le, List, length, slice_index_or}
use Rattle.std.specs.List.{list_any}
use Rattle.std.specs.Str.{str_to_ascii_lowercase}
use Rattle.deb_text.specs.Common.{is_byte, first_is, is_nil}
use Rattle.deb_stanza.specs.Stanza.{is_colon, name_of}

-- of the length and of the bytes at both ends, where there are any
abbrev pub key_in : List ℕ → ℕ
key_in name =
    (length name % 256 + slice_index_or name 0 0 * 8
    + slice_index_or name (length name - 1) 0 * 31) % 256

-- names that are the same but for the case of ASCII letters have one key
abbrev pub key_of : List ℕ → ℕ
key_of name = key_in (str_to_ascii_lowercase name)

abbrev pub text_key : List ℕ → ℕ
text_key text = key_of (name_of text)

-- the keys of fields, and a number for each key that is above the place of each field that has it
abbrev pub StandBelow : List ℕ → List ℕ → Type 0
StandBelow counts keys =
    (i : ℕ) → i < length keys → i < slice_index_or counts (slice_index_or keys i 0) 0

abbrev pub has_colon : List ℕ → Bool
has_colon text = list_any is_colon text

-- a byte of a name, none of which is a colon
abbrev pub is_name_byte : ℕ → Bool
is_name_byte b = not (is_colon b) && nat_le 33 b && nat_le b 126

abbrev pub is_named : List ℕ → List ℕ → Bool
is_named name rest = first_is is_colon rest && not (is_nil name) && not (first_is (is_byte 45) name)
