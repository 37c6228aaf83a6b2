-- The shorthand in which the rows are written: amd64 is built on, riscv64 is built for, and fields
-- are as Debian writes them.
--
--   needs, clashes, provides          what a field says
--   of_amd64, of_riscv64, of_all      a package of version 1 without relations
--   in_version, providing,
--   conflicting, breaking             the same with a field
--   does_meet                         whether a package meets each entry of a field
--   jpegs                             packages of which one is in conflict with what it provides
use Rattle.std.specs.Prelude.{ℕ, Bool, true, false, List, [], ◌∷◌, None, codes}
use Rattle.std.specs.List.{list_any, list_all}
use Rattle.std.specs.Result.{result_unwrap_or}
use Rattle.deb_relation.specs.declared.kind.Kind.{Kind}
use Rattle.deb_relation.specs.declared.kind.Kind.TheVariants.{BuildNeed, Clash, Provide}
use Rattle.deb_relation.specs.Common.{Relations, relations_at}
use Rattle.farm_model.specs.Common.{Package}
use Rattle.cross_laws.specs.declared.types.Side.TheVariants.{Build, Host}
use Rattle.cross_laws.specs.declared.types.Architecture.{Architecture}
use Rattle.cross_laws.specs.declared.types.Architecture.TheVariants.{All, Of}
use Rattle.cross_laws.specs.declared.types.MultiArch.{MultiArch}
use Rattle.cross_laws.specs.declared.types.MultiArch.TheVariants.{Same}
use Rattle.cross_laws.specs.Binary.{Sides, Binary, atoms}
use Rattle.cross_laws.specs.Meets.{Asker, meets_entry}
use Rattle.cross_laws.specs.Excludes.{hits}
use Rattle.cross_laws.specs.Encoding.{plain, encoded_package}
use Rattle.cross_laws.specs.Clear.{is_clear_entry, is_clear_clash}

abbrev pub sides : Sides
sides = record { build = codes "amd64"; host = codes "riscv64" }

-- a text that is no field has an entry that nothing meets, and that is like no other
abbrev pub unreadable : Relations
unreadable = (plain [] None ∷ []) ∷ []

-- what a field says
abbrev pub field_of : Kind → List ℕ → Relations
field_of kind text = result_unwrap_or (relations_at kind text) unreadable

abbrev pub needs : List ℕ → Relations
needs text = field_of BuildNeed text

abbrev pub clashes : List ℕ → Relations
clashes text = field_of Clash text

abbrev pub provides : List ℕ → Relations
provides text = field_of Provide text

abbrev pub bare : Package
bare = record {
  version = codes "1";
  size = 0;
  essential = false;
  pre_depends = [];
  depends = [];
  conflicts = [];
  breaks = [];
  provides = [];
}

abbrev pub binary : Architecture → List ℕ → MultiArch → Binary
binary architecture name multi_arch = record {
  name = name;
  architecture = architecture;
  multi_arch = multi_arch;
  rest = bare;
}

abbrev pub of_amd64 : List ℕ → MultiArch → Binary
of_amd64 = binary (Of Build)

abbrev pub of_riscv64 : List ℕ → MultiArch → Binary
of_riscv64 = binary (Of Host)

abbrev pub of_all : List ℕ → MultiArch → Binary
of_all = binary All

abbrev pub in_version : List ℕ → Binary → Binary
in_version version p = record p { rest = record p.rest { version = version } }

abbrev pub providing : List ℕ → Binary → Binary
providing text p = record p { rest = record p.rest { provides = provides text } }

abbrev pub conflicting : List ℕ → Binary → Binary
conflicting text p = record p { rest = record p.rest { conflicts = clashes text } }

abbrev pub breaking : List ℕ → Binary → Binary
breaking text p = record p { rest = record p.rest { breaks = clashes text } }

-- ---- who asks

abbrev pub by_amd64 : Asker
by_amd64 = record { side = Build; is_build = false }

abbrev pub by_riscv64 : Asker
by_riscv64 = record { side = Host; is_build = false }

abbrev pub by_a_build : Asker
by_a_build = record { side = Host; is_build = true }

abbrev pub does_meet : Asker → List ℕ → Binary → Bool
does_meet at text p = list_all (λ entry. meets_entry sides at entry p) (needs text)

-- ---- rows

abbrev pub build_clash_hits : List ℕ → Binary → Bool
build_clash_hits text p = list_any (λ a. hits sides true a p) (atoms (clashes text))

abbrev pub encoded_provides_of : Binary → Relations
encoded_provides_of p = (encoded_package sides [] p).provides

abbrev pub encoded_conflicts_among : List Binary → Binary → Relations
encoded_conflicts_among all p = (encoded_package sides all p).conflicts

-- whether each entry of a field is clear in a universe of one package
abbrev pub is_clear_need : Binary → List ℕ → Bool
is_clear_need p text = list_all (is_clear_entry sides (p ∷ [])) (needs text)

-- what is in conflict with what it provides, of riscv64; and all packages
abbrev pub jpeg_of_riscv64 : Binary
jpeg_of_riscv64 =
    conflicting (codes "jpeg-dev") (providing (codes "jpeg-dev") (of_riscv64 (codes "jpeg") Same))

abbrev pub jpegs : List Binary
jpegs =
    jpeg_of_riscv64
    ∷ providing (codes "jpeg-dev") (of_amd64 (codes "jpeg") Same)
    ∷ providing (codes "jpeg-dev") (of_amd64 (codes "turbo") Same)
    ∷ []

-- whether its clash is clear beside another package
abbrev pub is_clear_beside : Binary → Bool
is_clear_beside p =
    list_all (is_clear_clash sides (p ∷ jpegs) jpeg_of_riscv64) (atoms (clashes (codes "jpeg-dev")))
