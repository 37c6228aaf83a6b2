-- Which words name the two architectures of a cross build.
--
--   is_architecture word     the word can be the name of an architecture, and the end of a name
--   are_sides build host     these are two architectures
use Rattle.std.specs.Prelude.{ℕ, Bool, not, ◌&&◌, ◌||◌, List, codes}
use Rattle.std.specs.List.{list_all}
use Rattle.std.specs.Str.{bytes_eq}
use Rattle.deb_text.specs.Common.{is_nil, is_qualifier_byte}

-- words that stand for several architectures, or for none, and the mark of `n.one`
abbrev pub is_reserved : List ℕ → Bool
is_reserved word =
    bytes_eq word (codes "all") || bytes_eq word (codes "any") || bytes_eq word (codes "native")
    || bytes_eq word (codes "one")

abbrev pub is_architecture : List ℕ → Bool
is_architecture word =
    not (is_nil word) && list_all is_qualifier_byte word && not (is_reserved word)

abbrev pub are_sides : List ℕ → List ℕ → Bool
are_sides build host =
    is_architecture build && is_architecture host && not (bytes_eq build host)
