-- What becomes of the build relations of a source, for a build for a side.
--
--   Way                    how sources are encoded
--   held w side field      the entries that may hold for the side
--   made_for w side given  all build relations, encoded
use Rattle.std.specs.Prelude.{ℕ, List, [], ◌∷◌, ◌++◌, map, filter, None, true}
use Rattle.std.specs.List.{flat_map}
use Rattle.deb_relation.specs.Common.{Atom, Entry, Relations}
use Rattle.deb_relation.specs.Holding.{archs_hold}
use Rattle.deb_profile.specs.Reduction.{entry_left}
use Rattle.deb_profile.specs.Restriction.{is_among}
use Rattle.cross_laws.specs.declared.types.Side.{Side}
use Rattle.cross_laws.specs.declared.types.Side.TheVariants.{Build, Host}
use Rattle.cross_laws.specs.Binary.{Sides}
use Rattle.cross_laws.specs.Meets.{Asker}
use Rattle.cross_laws.specs.Encoding.{encoded_clashes, encoded_needs}
use Rattle.cross_sources.specs.GivenSource.{BuildRelations}
use Rattle.cross_sources.specs.declared.asked.Asked as declared
use Rattle.cross_sources.specs.declared.asked.WantedSource.{WantedSource}

-- the names that match the architecture on which is built, what each build for the host needs
-- besides, and which sources are wanted
pub record Way : Type 0 where
  pub sides : Sides
  pub names : List (List ℕ)
  pub ahead : Relations
  pub wanted : List WantedSource

abbrev pub way_of : declared.Asked → Way
way_of of = record {
  sides = of.sides.now;
  names = of.names.now;
  ahead = of.ahead.now;
  wanted = of.wanted.now;
}

-- a build for a side asks
abbrev pub builder : Side → Asker
builder side = record { side = side; is_build = true }

-- the alternatives whose architectures have the one on which is built, without these
abbrev pub for_all : Atom → Atom
for_all a = record a { archs = None }

abbrev pub unbracketed : List (List ℕ) → Entry → Entry
unbracketed names entry = map for_all (filter (λ a. archs_hold (is_among names) a.archs) entry)

abbrev pub without_brackets : List (List ℕ) → Relations → Relations
without_brackets names field = flat_map (λ entry. entry_left (unbracketed names entry)) field

-- the names of a farm are those of the host, so what is restricted to others is judged here
abbrev pub held : Way → Side → Relations → Relations
held w Build field = without_brackets w.names field
held w Host field = field

abbrev pub needs_for : Way → Side → Relations → Relations
needs_for w side field = encoded_needs w.sides (builder side) (held w side field)

abbrev pub clashes_for : Way → Side → Relations → Relations
clashes_for w side field = encoded_clashes w.sides (held w side field)

abbrev pub ahead_for : Way → Side → Relations
ahead_for w Build = []
ahead_for w Host = w.ahead

abbrev pub made_for : Way → Side → BuildRelations → BuildRelations
made_for w side given = record {
  depends = ahead_for w side ++ needs_for w side given.depends;
  depends_arch = needs_for w side given.depends_arch;
  depends_indep = needs_for w side given.depends_indep;
  conflicts = clashes_for w side given.conflicts;
  conflicts_arch = clashes_for w side given.conflicts_arch;
  conflicts_indep = clashes_for w side given.conflicts_indep;
}
