-- What becomes of the rows of a Package-List (dsc(5)): "package package-type section priority
-- key=value-list".
--
--   list_for w side value    the value of the field, for a build for a side
use Rattle.std.specs.Prelude.{ℕ, Bool, List, [], ◌∷◌, map, codes, if◌then◌else◌}
use Rattle.std.specs.List.{flat_map, list_any, slice_split}
use Rattle.deb_text.specs.Common.{is_byte, lines_of, spaced, trimmed, words}
use Rattle.deb_profile.specs.Restriction.{is_among}
use Rattle.debian_index.specs.Given.{is_all, is_mark, places_of}
use Rattle.cross_laws.specs.declared.types.Side.{Side}
use Rattle.cross_laws.specs.declared.types.Side.TheVariants.{Build, Host}
use Rattle.cross_laws.specs.Binary.{Sides}
use Rattle.cross_laws.specs.Names.{Of, encoded}
use Rattle.cross_sources.specs.Relations.{Way}

-- a row that holds on the architecture on which is built says `any` in its place, since the names of
-- a farm are those of the host
abbrev pub for_any : List ℕ → List ℕ
for_any word = if is_mark (codes "arch") word then codes "arch=any" else word

abbrev pub row_of : List (List ℕ) → List ℕ
row_of ws = 10 ∷ spaced ws

abbrev pub is_here : Way → List ℕ → Bool
is_here w places = list_any (is_among w.names) (slice_split (is_byte 44) places)

abbrev pub row_here : Way → List ℕ → List (List ℕ) → List ℕ
row_here w places row =
    if is_all places then row_of row
    else (if is_here w places then row_of (map for_any row) else [])

-- a build for the host gives nothing of `all`
abbrev pub row_for : Way → Side → List ℕ → List ℕ → List (List ℕ) → List ℕ
row_for w Host places name more =
    if is_all places then [] else row_of (encoded w.sides (Of Host) name ∷ more)
row_for w Build places name more = row_here w places (name ∷ more)

abbrev pub row_made : Way → Side → List (List ℕ) → List ℕ
row_made w side [] = []
row_made w side (name ∷ more) = row_for w side (places_of (name ∷ more)) name more

unfoldable pub rows_made : Way → Side → List (List ℕ) → List ℕ
rows_made w side rows = flat_map (λ row. row_made w side (words row)) rows

abbrev pub list_for : Way → Side → List ℕ → List ℕ
list_for w side value = trimmed (rows_made w side (lines_of value))
