-- How the names of two architectures become names of one: a mark at the end says what a name means.
--
--   Sense       what an encoded name means
--   encoded     the encoded name of a name in a sense
--   is_taken    a name has the form of an encoded one
--   is_mark     a host's name may be a mark
--   decoded     the sense and the name of an encoded name
use Rattle.std.specs.Prelude.{ℕ, Bool, not, ◌&&◌, ◌||◌, List, ◌∷◌, ◌++◌, if◌then◌else◌, codes}
use Rattle.std.specs.List.{list_all}
use Rattle.std.specs.Str.{bytes_eq}
use Rattle.deb_text.specs.Common.{is_byte, is_qualifier_byte, is_nil, before_last, after_last}
use Rattle.cross_laws.specs.declared.types.Side.{Side}
use Rattle.cross_laws.specs.declared.types.Side.TheVariants.{Build, Host}
use Rattle.cross_laws.specs.Binary.{Sides}

-- the package of a side; what `:any` asks for, where a package of a side serves it; the package of
-- either side
pub data Sense : Type 0 where
  Of : (side : Side) → Sense
  ForAny : (side : Side) → Sense
  One : Sense

abbrev pub dot : ℕ
dot = 46

abbrev pub any_mark : List ℕ
any_mark = codes "any"

abbrev pub one_mark : List ℕ
one_mark = codes "one"

abbrev pub marked : List ℕ → List ℕ → List ℕ
marked name mark = name ++ dot ∷ mark

-- n, n.HOST, n.any, n.any.HOST, n.one
unfoldable pub encoded : Sides → Sense → List ℕ → List ℕ
encoded s (Of Build) name = name
encoded s (Of Host) name = marked name s.host
encoded s (ForAny Build) name = marked name any_mark
encoded s (ForAny Host) name = marked (marked name any_mark) s.host
encoded s One name = marked name one_mark

-- what is after the last full stop, and before it
abbrev pub mark_of : List ℕ → List ℕ
mark_of name = after_last (is_byte dot) name

abbrev pub stem_of : List ℕ → List ℕ
stem_of name = before_last (is_byte dot) name

-- names that end in `.HOST`, `.any` or `.one`
unfoldable pub is_taken : Sides → List ℕ → Bool
is_taken s name =
    bytes_eq (mark_of name) s.host
    || bytes_eq (mark_of name) any_mark
    || bytes_eq (mark_of name) one_mark

-- a word of lower-case letters, digits and `-`, neither `any` nor `one`
unfoldable pub is_mark : List ℕ → Bool
is_mark host =
    not (is_nil host) && list_all is_qualifier_byte host
    && not (bytes_eq host any_mark) && not (bytes_eq host one_mark)

abbrev pub host_decoded : List ℕ → Sense × List ℕ
host_decoded stem =
    if bytes_eq (mark_of stem) any_mark then (ForAny Host, stem_of stem) else (Of Host, stem)

unfoldable pub decoded : Sides → List ℕ → Sense × List ℕ
decoded s name =
    if bytes_eq (mark_of name) s.host then host_decoded (stem_of name)
    else (if bytes_eq (mark_of name) any_mark then (ForAny Build, stem_of name)
    else (if bytes_eq (mark_of name) one_mark then (One, stem_of name)
    else (Of Build, name)))
