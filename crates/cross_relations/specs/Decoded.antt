-- What encoded names are names of.
--
--   host_stem s name    the name of a package of the host, of which this is the encoded one
--   shown s name        the name as people know it
--   own_side, own_name  the side and the name of the package
use Rattle.std.specs.Prelude.{ℕ, List, ◌∷◌, ◌++◌, Option, Some, None, unwrap_or, if◌then◌else◌}
use Rattle.std.specs.List.{list_any}
use Rattle.std.specs.Str.{bytes_eq}
use Rattle.deb_text.specs.Common.{is_byte}
use Rattle.cross_laws.specs.declared.types.Side.{Side}
use Rattle.cross_laws.specs.declared.types.Side.TheVariants.{Build, Host}
use Rattle.cross_laws.specs.Binary.{Sides}
use Rattle.cross_laws.specs.Names.{dot, mark_of, stem_of}

-- it ends in `.HOST`
abbrev pub host_stem : Sides → List ℕ → Option (List ℕ)
host_stem s name =
    if list_any (is_byte dot) name
    then (if bytes_eq (mark_of name) s.host then Some (stem_of name) else None)
    else None

-- `n.HOST` as dpkg and apt call it, `n:HOST`; any other name as it stands
abbrev pub shown_by : Sides → List ℕ → Option (List ℕ) → List ℕ
shown_by s name None = name
shown_by s name (Some stem) = stem ++ 58 ∷ s.host

abbrev pub shown : Sides → List ℕ → List ℕ
shown s name = shown_by s name (host_stem s name)

abbrev pub side_by : Option (List ℕ) → Side
side_by None = Build
side_by (Some stem) = Host

abbrev pub own_side : Sides → List ℕ → Side
own_side s name = side_by (host_stem s name)

abbrev pub own_name : Sides → List ℕ → List ℕ
own_name s name = unwrap_or (host_stem s name) name
