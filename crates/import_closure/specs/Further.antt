-- Versions of further builds (binNMUs): `+bN` at the end.
--
--   counted_at version            what stands before `+bN`, and N
--   further_version version n     the version behind n builds of it
use Rattle.std.specs.Prelude.{ℕ, ◌+◌, Bool, List, [], ◌∷◌, ◌++◌, ◌==◌, codes, if◌then◌else◌, Option, Some, None}
use Rattle.std.specs.List.{list_any}
use Rattle.std.specs.Fmt.{decimal}
use Rattle.deb_text.specs.Common.{is_byte, before_last, after_last, number_at}
use Rattle.import_closure.specs.declared.version.Counted as declared

pub record Counted : Type 0 where
  pub stem : List ℕ
  pub count : ℕ

abbrev pub counted_view : declared.Counted → Counted
counted_view counted = record { stem = counted.stem.now; count = counted.count }

abbrev pub is_plus : ℕ → Bool
is_plus b = is_byte 43 b

-- the number behind a `b`
abbrev pub build_number : List ℕ → Option ℕ
build_number [] = None
build_number (b ∷ digits) = if b == 98 then number_at digits else None

abbrev pub counted_by : List ℕ → List ℕ → Option ℕ → Counted
counted_by version stem None = record { stem = version; count = 0 }
counted_by version stem (Some n) = record { stem = stem; count = n }

abbrev pub counted_at : List ℕ → Counted
counted_at version =
    if list_any is_plus version
    then counted_by version (before_last is_plus version) (build_number (after_last is_plus version))
    else record { stem = version; count = 0 }

abbrev pub numbered : Counted → ℕ → List ℕ
numbered counted n = counted.stem ++ codes "+b" ++ decimal (counted.count + n)

abbrev pub further_version : List ℕ → ℕ → List ℕ
further_version version n = if n == 0 then version else numbered (counted_at version) n
