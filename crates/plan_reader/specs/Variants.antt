-- A variant as a relation spells it (Debian Policy 7.1).
--
--   version_of u v      the version, as the packages text spells it
--   variant_text u v    NAME (= VERSION)
use Rattle.std.specs.Prelude.{ℕ, List, ◌++◌, codes}
use Rattle.farm_model.specs.Common.{package_of, Universe}
use Rattle.farm_model.specs.declared.types.Variant.{Variant}
use Rattle.plan_reader.specs.Listing.{name_of_number}

abbrev pub version_of : Universe → Variant → List ℕ
version_of u v = (package_of u v).version

abbrev pub variant_text : Universe → Variant → List ℕ
variant_text u v = name_of_number u v.name ++ codes " (= " ++ version_of u v ++ codes ")"
