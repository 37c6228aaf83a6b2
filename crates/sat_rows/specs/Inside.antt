-- Names of which all variants that words have satisfy an alternative. The project's own words.
--
--   IsInside     the words have variants of this name, and all of them satisfy the alternative
--   HasInside    they have such a name
use Rattle.std.specs.Prelude.{ℕ, List, slice_index}
use Rattle.bit_rows.specs.Sets.{variants_of, IsMetAt, HasNameInside}
use Rattle.deb_relation.specs.Relations.{Atom}
use Rattle.farm_model.specs.Common.{Universe, satisfies}
use Rattle.sat_rows.specs.Rows.{variant_passes}

abbrev pub IsInside : Universe → Atom → List ℕ → ℕ → Type 0
IsInside u a words name = IsMetAt (variant_passes u (satisfies u a)) name (slice_index words name)

abbrev pub HasInside : Universe → Atom → List ℕ → Type 0
HasInside u a words = HasNameInside (variants_of words) (variant_passes u (satisfies u a))
