-- Binary packages of two architectures, with their Multi-Arch values (deb-control). The rules are
-- those of dpkg 1.22 (deparchsatisfied of lib/dpkg/depcon.c, f_dependency of fields.c, parse.c,
-- src/main/configure.c, Dpkg::Deps::KnownFacts) and of apt 2.6 (ParseDepends and ParseProvides of
-- deblistparser.cc, AddImplicitDepends of pkgcachegen.cc, IsIgnorable of pkgcache.cc). They are
-- numbered: 1 and 8 are here, 2 to 7 in Meets, 9 to 13 in Excludes.
--
--   Sides       the names of the two architectures
--   Binary      a binary package, as its paragraph says
--   side_of     rule 1: the side that an architecture counts for
--   Asked       what the qualifier of an alternative asks for
--   offers      rule 8: what a package may be taken for, which is itself and what it provides
use Rattle.std.specs.Prelude.{ℕ, Bool, true, false, List, [], ◌∷◌, Option, Some, None, if◌then◌else◌, codes}
use Rattle.std.specs.List.{flat_map}
use Rattle.std.specs.Str.{bytes_eq}
use Rattle.deb_relation.specs.Common.{Atom, Relations}
use Rattle.deb_relation.specs.declared.operator.Op.{Op}
use Rattle.deb_relation.specs.declared.operator.Op.TheVariants.{Equal}
use Rattle.farm_model.specs.Common.{Package}
use Rattle.cross_laws.specs.declared.types.Side.{Side}
use Rattle.cross_laws.specs.declared.types.Side.TheVariants.{Build, Host}
use Rattle.cross_laws.specs.declared.types.Architecture.{Architecture}
use Rattle.cross_laws.specs.declared.types.Architecture.TheVariants.{All, Of}
use Rattle.cross_laws.specs.declared.types.MultiArch.{MultiArch}
use Rattle.cross_laws.specs.declared.types.MultiArch.TheVariants.{No, Same, Foreign, Allowed}

-- the architecture on which is built, and the one for which, by their names in Debian
pub record Sides : Type 0 where
  pub build : List ℕ
  pub host : List ℕ

-- a binary package: its name, Architecture and Multi-Arch, and the rest of its paragraph, whose
-- relations have their qualifiers
pub record Binary : Type 0 where
  pub name : List ℕ
  pub architecture : Architecture
  pub multi_arch : MultiArch
  pub rest : Package

-- rule 1: `all` counts as the build architecture (dpkg: deparchsatisfied; apt: as its native one)
abbrev pub side_of : Architecture → Side
side_of All = Build
side_of (Of side) = side

-- by what a package counts for others
pub record Standing : Type 0 where
  pub side : Side
  pub multi_arch : MultiArch

abbrev pub standing : Binary → Standing
standing p = record { side = side_of p.architecture; multi_arch = p.multi_arch }

abbrev pub is_side : Side → Side → Bool
is_side Build Build = true
is_side Build Host = false
is_side Host Build = false
is_side Host Host = true

abbrev pub is_same : MultiArch → Bool
is_same No = false
is_same Same = true
is_same Foreign = false
is_same Allowed = false

abbrev pub is_foreign : MultiArch → Bool
is_foreign No = false
is_foreign Same = false
is_foreign Foreign = true
is_foreign Allowed = false

abbrev pub is_allowed : MultiArch → Bool
is_allowed No = false
is_allowed Same = false
is_allowed Foreign = false
is_allowed Allowed = true

-- ---- qualifiers

-- what a qualifier asks for: none, `:any`, `:native`, the name of a side, any other
pub data Asked : Type 0 where
  Unsaid : Asked
  Any : Asked
  Native : Asked
  Named : (side : Side) → Asked
  Elsewhere : Asked

abbrev pub asked_by : Sides → List ℕ → Asked
asked_by s word =
    if bytes_eq word (codes "any") then Any
    else (if bytes_eq word (codes "native") then Native
    else (if bytes_eq word s.build then Named Build
    else (if bytes_eq word s.host then Named Host
    else Elsewhere)))

unfoldable pub asked : Sides → Option (List ℕ) → Asked
asked s None = Unsaid
asked s (Some word) = asked_by s word

-- ---- offers

-- a name, under a version or none, and by what it counts
pub record Offer : Type 0 where
  pub name : List ℕ
  pub version : Option (Op × List ℕ)
  pub standing : Standing

-- the package itself, under its version
abbrev pub itself : Binary → Offer
itself p = record {
  name = p.name;
  version = Some (Equal, p.rest.version);
  standing = standing p;
}

-- rule 8: what is provided counts as its package does (dpkg: deparchsatisfied of the provider; apt:
-- ParseProvides), and with the name of an architecture as of that one alone (apt: ParseProvides)
abbrev pub provided_as : Atom → Standing → Asked → List Offer
provided_as item own Unsaid =
    record { name = item.name; version = item.relation; standing = own } ∷ []
provided_as item own (Named side) =
    record {
      name = item.name;
      version = item.relation;
      standing = record { side = side; multi_arch = No };
    } ∷ []
provided_as item own Any = []
provided_as item own Native = []
provided_as item own Elsewhere = []

-- the alternatives of all entries
abbrev pub atoms : Relations → List Atom
atoms relations = flat_map (λ entry. entry) relations

abbrev pub provided : Sides → Binary → List Offer
provided s p =
    flat_map (λ item. provided_as item (standing p) (asked s item.qualifier))
    (atoms p.rest.provides)

abbrev pub offers : Sides → Binary → List Offer
offers s p = itself p ∷ provided s p
