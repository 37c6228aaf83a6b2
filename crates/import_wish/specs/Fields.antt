-- How the fields of a wish are read.
--
--   mode_at mode value    a mode, or the one that stands for one that is absent
use Rattle.std.specs.Prelude.{ℕ, List, Option, Some, None, Result, Ok, Err, codes, if◌then◌else◌}
use Rattle.std.specs.Str.{bytes_eq}
use Rattle.farm_model.specs.declared.types.Mode.{Mode}
use Rattle.farm_model.specs.declared.types.Mode.TheVariants.{Full, Arch, Indep}
use Rattle.deb_fields.specs.declared.error.TheConstants.{BAD_VALUE}

-- a mode, by its name
abbrev pub mode_of : List ℕ → Result Mode ℕ
mode_of text =
    if bytes_eq text (codes "full") then Ok Full
    else if bytes_eq text (codes "arch") then Ok Arch
    else if bytes_eq text (codes "indep") then Ok Indep
    else Err BAD_VALUE

abbrev pub mode_at : Mode → Option (List ℕ) → Result Mode ℕ
mode_at mode None = Ok mode
mode_at mode (Some text) = mode_of text
