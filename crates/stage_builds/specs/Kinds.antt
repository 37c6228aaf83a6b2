-- What a build is for others, by the profiles that it has beyond those of every build.
--
--   keeps_contents profile    what is still given under it has the same contents
--   kind_of more              whole, light or staged
--   is_final kind             others may take it as built for good
--   are_final base profiles   so may they by the profiles of a build, where every build has these
use Rattle.std.specs.Prelude.{ℕ, Bool, true, false, ◌||◌, List, codes, if◌then◌else◌}
use Rattle.std.specs.List.{list_all}
use Rattle.std.specs.Str.{bytes_eq}
use Rattle.deb_text.specs.Common.{is_nil}
use Rattle.deb_profile.specs.Restriction.{is_among}
use Rattle.stage_builds.specs.declared.kind.Kind.{Kind}
use Rattle.stage_builds.specs.declared.kind.Kind.TheVariants.{Whole, Light, Staged}

-- BuildProfileSpec lets these three leave out tests and packages, and nothing of what is given
abbrev pub keeps_contents : List ℕ → Bool
keeps_contents profile =
    bytes_eq profile (codes "nocheck") || bytes_eq profile (codes "noinsttest")
    || bytes_eq profile (codes "noudeb")

-- a profile that is not of the three may change contents, also one that is not known
abbrev pub kind_of : List (List ℕ) → Kind
kind_of more =
    if is_nil more then Whole else (if list_all keeps_contents more then Light else Staged)

abbrev pub is_final : Kind → Bool
is_final Whole = true
is_final Light = true
is_final Staged = false

abbrev pub is_final_under : List (List ℕ) → List ℕ → Bool
is_final_under base profile = is_among base profile || keeps_contents profile

abbrev pub are_final : List (List ℕ) → List (List ℕ) → Bool
are_final base profiles = list_all (is_final_under base) profiles
