-- The lines of a text that are no comments, as Debian Policy 5.1 has them, and the own line of a
-- field and of an item in it: a refusal tells the first line of its paragraph alone.
--
--   begins name line                    the line begins a field of this name
--   from_field name first ls            the lines from a field on, of the paragraph that begins at
--                                       this line
--   item_line ls first name place       the line at which an item of the value begins
use Rattle.std.specs.Prelude.{ℕ, ◌==◌, Bool, not, ◌&&◌, nat_le, filter_map, find, flat_map, List, [], ◌∷◌, map, slice_get, Option, option_map, if◌then◌else◌}
use Rattle.std.specs.List.{slice_split}
use Rattle.deb_text.specs.Common.{is_blank, after, behind, Line}
use Rattle.deb_stanza.specs.Stanza.{continuation, continues, is_colon, name_of, same_name}

-- but for the case of ASCII letters
abbrev pub begins : List ℕ → Line → Bool
begins name l = not (continues l) && same_name name (name_of l.1)

-- what of a line is of the value of its field
abbrev pub value_in : Line → List ℕ
value_in l = if continues l then l.1 else after is_colon l.1

-- the lines from the field's first one on, which is one from the paragraph's first one on
unfoldable pub from_field : List ℕ → ℕ → List Line → List Line
from_field name first ls = behind (λ l. not (nat_le first l.0 && begins name l)) ls

-- the first of these lines, and those that continue it
abbrev pub field_in : List Line → List Line
field_in [] = []
field_in (l ∷ ls) = l ∷ continuation ls

-- the bytes of these lines, each with the number of its line
abbrev pub bytes_of : List Line → List (ℕ × ℕ)
bytes_of ls = flat_map (λ l. map (λ b. (l.0, b)) (value_in l)) ls

abbrev pub is_comma : ℕ × ℕ → Bool
is_comma c = c.1 == 44

-- the first byte of each item: items stand between commas, and are not of blanks alone
abbrev pub firsts_of : List (List (ℕ × ℕ)) → List (ℕ × ℕ)
firsts_of parts = filter_map (λ part. find (λ c. not (is_blank c.1)) part) parts

-- of the item of this place, the first place being 0
unfoldable pub item_line : List Line → ℕ → List ℕ → ℕ → Option ℕ
item_line ls first name place =
    option_map (λ c. c.0) (slice_get (firsts_of
    (slice_split is_comma (bytes_of (field_in (from_field name first ls))))) place)
