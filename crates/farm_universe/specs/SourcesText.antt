-- The sources text: a paragraph for each version of a source package (Debian Policy 5.4), and what
-- all of them say.
--
--   source_at p         what a paragraph says, or its first fault
--   sources_said ps     the names by number, and the sources of each
--   source_fault        what is wrong with a source behind those before it
--   sources_of ps       what the paragraphs say, or the first fault
--   find_source         the source of a name with this version
use Rattle.std.specs.Prelude.{ℕ, Bool, nat_le, List, [], ◌∷◌, map, filter, find, length, Option, Some, None, Result, Ok, codes}
use Rattle.std.specs.List.{list_any}
use Rattle.std.specs.Str.{bytes_eq}
use Rattle.std.specs.Ordering.{is_eq}
use Rattle.deb_text.specs.Common.{distinct, place_in, ◌>>=◌, goods, item_fault}
use Rattle.deb_text.specs.declared.fault.Fault.{Fault}
use Rattle.deb_text.specs.declared.files.TheConstants.{SOURCES}
use Rattle.deb_stanza.specs.Stanza.{Paragraph, value_of}
use Rattle.deb_version.specs.Grammar.{text_cmp}
use Rattle.deb_relation.specs.declared.kind.Kind.{Kind}
use Rattle.deb_relation.specs.declared.kind.Kind.TheVariants.{BuildNeed, BuildClash}
use Rattle.farm_universe.specs.declared.error.TheConstants.{TWICE, OVER_LIMIT}
use Rattle.farm_universe.specs.declared.limits.TheConstants.{MOST_SOURCES}
use Rattle.farm_universe.specs.declared.sources.BuildFields.{BuildFields}
use Rattle.farm_universe.specs.declared.sources.Source.{Source}
use Rattle.farm_universe.specs.Fields.{needed_at, package_name_at, version_text_at, relations_in}
use Rattle.farm_universe.specs.Keyed.{group_at}
use Rattle.farm_universe.specs.PackagesText.{first_code}
use Rattle.farm_universe.specs.Told.{paragraphs_judged}

-- what a paragraph says
pub record ListedSource : Type 0 where
  pub name : List ℕ
  pub source : Source

-- the field Package, else the field Source
abbrev pub source_name_in : Paragraph → Option (List ℕ) → Result (List ℕ) ℕ
source_name_in p (Some given) = Ok given
source_name_in p None = needed_at p (codes "Source")

abbrev pub source_name_at : Paragraph → Result (List ℕ) ℕ
source_name_at p = source_name_in p (value_of p (codes "Package"))

-- three fields of these names: for every build, for builds of packages of one architecture, and for
-- builds of packages of all (Policy 7.7)
unfoldable pub build_fields_at : Kind → Paragraph → List ℕ → List ℕ → List ℕ → Result BuildFields ℕ
build_fields_at kind p always arch indep = do
  for_all ← relations_in kind (value_of p always)
  for_arch ← relations_in kind (value_of p arch)
  for_indep ← relations_in kind (value_of p indep)
  Ok (record { always = for_all; arch = for_arch; indep = for_indep })

abbrev pub build_needs_at : Paragraph → Result BuildFields ℕ
build_needs_at p = build_fields_at BuildNeed p (codes "Build-Depends") (codes "Build-Depends-Arch")
    (codes "Build-Depends-Indep")

abbrev pub clashes_at : Paragraph → Result BuildFields ℕ
clashes_at p = build_fields_at BuildClash p (codes "Build-Conflicts") (codes "Build-Conflicts-Arch")
    (codes "Build-Conflicts-Indep")

-- the fields in the order in which they are looked at
unfoldable pub source_at : Paragraph → Result ListedSource ℕ
source_at p = do
  given ← source_name_at p
  name ← package_name_at given
  spelled ← needed_at p (codes "Version")
  version ← version_text_at spelled
  needs ← build_needs_at p
  clashes ← clashes_at p
  Ok (record {
    name = name;
    source = record { version = version; needs = needs; clashes = clashes };
  })

-- ---- what all of them say

-- the names, for each its sources, and how many sources there are
pub record SourceTable : Type 0 where
  pub names : List (List ℕ)
  pub sources : List (List Source)
  pub count : ℕ

-- the version of the source, however it is written (Policy 5.6.12)
abbrev pub is_of_version : List ℕ → Source → Bool
is_of_version version source = is_eq (text_cmp version source.version)

-- the names, in the order in which they first appear
abbrev pub source_names : List ListedSource → List (List ℕ)
source_names ps = distinct bytes_eq (map (λ p. p.name) ps)

-- the sources of a name
abbrev pub sources_named : List ListedSource → List ℕ → List Source
sources_named ps name = map (λ p. p.source) (filter (λ p. bytes_eq name p.name) ps)

-- the names by number, and the sources of each
abbrev pub sources_said : List ListedSource → SourceTable
sources_said ps = record {
  names = source_names ps;
  sources = map (sources_named ps) (source_names ps);
  count = length ps;
}

-- the sources of its name before it, and how many there are of all names
abbrev pub source_rules : Source → List Source → ℕ → List (Bool × ℕ)
source_rules source given count =
    (list_any (is_of_version source.version) given, TWICE)
    ∷ (nat_le MOST_SOURCES count, OVER_LIMIT) ∷ []

-- the code of what is wrong with a source behind those before it
abbrev pub source_fault : List ListedSource → ListedSource → Option ℕ
source_fault before p =
    first_code (source_rules p.source (sources_named before p.name) (length before))

-- what the paragraphs of the sources text say, or the first fault
unfoldable pub sources_of : List Paragraph → Result SourceTable Fault
sources_of ps =
    paragraphs_judged SOURCES (item_fault source_at source_fault)
    (λ qs. sources_said (goods source_at qs)) ps

-- the source of a name with this version
unfoldable pub find_source : SourceTable → List ℕ → List ℕ → Option Source
find_source table name version =
    find (is_of_version version) (group_at table.sources (place_in bytes_eq table.names name))
