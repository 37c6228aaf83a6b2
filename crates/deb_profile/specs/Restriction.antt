-- Whether an alternative is wanted for an architecture and under some build profiles (Debian Policy
-- 7.1, BuildProfileSpec). An architecture is known by its names, the wildcards that match it among
-- them.
--
--   is_among list word          the word is one of the list
--   keeps names active atom     the architecture list and the profile lists let the atom stay
use Rattle.std.specs.Prelude.{ℕ, Bool, List}
use Rattle.std.specs.List.{list_any}
use Rattle.std.specs.Str.{bytes_eq}
use Rattle.deb_relation.specs.Common.{stays, Atom}

-- the word is one of the list
abbrev pub is_among : List (List ℕ) → List ℕ → Bool
is_among list word = list_any (bytes_eq word) list

abbrev pub keeps : List (List ℕ) → List (List ℕ) → Atom → Bool
keeps names active atom = stays (is_among names) (is_among active) atom
