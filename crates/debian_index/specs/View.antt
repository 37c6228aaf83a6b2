-- What a build is for.
use Rattle.std.specs.Prelude.{ℕ, List, Option}
use Rattle.deb_profile.specs.Restriction.{is_among}
use Rattle.debian_index.specs.declared.list_rows.Build.{Build}
use Rattle.debian_index.specs.Given.{given_row}

abbrev pub row_for : Build → List (List ℕ) → Option (List ℕ)
row_for build = given_row (is_among build.names.now) (is_among build.profiles.now) build.mode
