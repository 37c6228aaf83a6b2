-- The packages text: a paragraph for each version of a package (Debian Policy 5.3), and what all of
-- them say.
--
--   package_by read p   what a paragraph says, its relation fields by this reader of a field
--   package_at p        what a paragraph says, or its first fault
--   table_of ps         the names by number, and the packages of each by version
--   package_fault       what is wrong with a package behind those before it
--   packages_of ps      what the paragraphs say, or the first fault
use Rattle.std.specs.Prelude.{ℕ, ◌+◌, Bool, ◌||◌, nat_lt, nat_le, List, [], ◌∷◌, ◌++◌, map, filter, length, sum, if◌then◌else◌, Option, Some, None, Result, Ok, codes}
use Rattle.std.specs.List.{list_any}
use Rattle.std.specs.Str.{bytes_eq}
use Rattle.std.specs.Ordering.{is_lt, is_eq}
use Rattle.deb_text.specs.Common.{distinct, sorted, ◌>>=◌, goods, item_fault}
use Rattle.deb_text.specs.declared.fault.Fault.{Fault}
use Rattle.deb_text.specs.declared.files.TheConstants.{PACKAGES}
use Rattle.deb_stanza.specs.Stanza.{Paragraph, value_of}
use Rattle.deb_version.specs.Grammar.{text_cmp}
use Rattle.deb_relation.specs.Relations.{Relations}
use Rattle.deb_relation.specs.declared.kind.Kind.{Kind}
use Rattle.deb_relation.specs.declared.kind.Kind.TheVariants.{Need, Clash, Provide}
use Rattle.farm_universe.specs.declared.error.TheConstants.{TWICE, TOO_MANY_VARIANTS, OVER_LIMIT}
use Rattle.farm_universe.specs.declared.limits.TheConstants.{MOST_NAMES, MOST_ENTRIES, MOST_VARIANTS}
use Rattle.farm_universe.specs.Fields.{needed_at, package_name_at, version_text_at, size_at, flag_at, relations_in}
use Rattle.farm_universe.specs.Told.{paragraphs_judged}
use Rattle.farm_universe.specs.declared.binary.PackageRelations.{PackageRelations}
use Rattle.farm_model.specs.Universe.{Package}

-- what a paragraph says
pub record Listed : Type 0 where
  pub name : List ℕ
  pub binary : Package

-- the relation fields in the order in which they are looked at (Policy 7), each by a reader of
-- fields of its kind, which may be absent
unfoldable pub package_relations_by : (Kind → Option (List ℕ) → Result Relations ℕ) → Paragraph
    → Result PackageRelations ℕ
package_relations_by read p = do
  pre_depends ← read Need (value_of p (codes "Pre-Depends"))
  depends ← read Need (value_of p (codes "Depends"))
  conflicts ← read Clash (value_of p (codes "Conflicts"))
  breaks ← read Clash (value_of p (codes "Breaks"))
  provides ← read Provide (value_of p (codes "Provides"))
  Ok (record {
    pre_depends = pre_depends;
    depends = depends;
    conflicts = conflicts;
    breaks = breaks;
    provides = provides;
  })

-- the fields in the order in which they are looked at
unfoldable pub package_by : (Kind → Option (List ℕ) → Result Relations ℕ) → Paragraph
    → Result Listed ℕ
package_by read p = do
  given ← needed_at p (codes "Package")
  name ← package_name_at given
  spelled ← needed_at p (codes "Version")
  version ← version_text_at spelled
  size ← size_at (value_of p (codes "Installed-Size"))
  essential ← flag_at (value_of p (codes "Essential"))
  relations ← package_relations_by read p
  Ok (record {
    name = name;
    binary = record {
      version = version;
      size = size;
      essential = essential;
      pre_depends = relations.pre_depends;
      depends = relations.depends;
      conflicts = relations.conflicts;
      breaks = relations.breaks;
      provides = relations.provides;
    };
  })

abbrev pub package_at : Paragraph → Result Listed ℕ
package_at p = package_by relations_in p

-- ---- what all of them say

-- the names, and for each its packages from the lowest version up, their relations as they were
-- read
pub record PackageTable : Type 0 where
  pub names : List (List ℕ)
  pub packages : List (List Package)
  -- the relation entries of all packages
  pub entries : ℕ

-- a lower version (Policy 5.6.12)
abbrev pub is_below : Package → Package → Bool
is_below v w = is_lt (text_cmp v.version w.version)

-- the same version, however it is written (Policy 5.6.12)
abbrev pub is_same : Package → Package → Bool
is_same v w = is_eq (text_cmp v.version w.version)

-- the entries of the five relation fields
abbrev pub entry_count : Package → ℕ
entry_count v =
    length v.pre_depends + length v.depends + length v.conflicts + length v.breaks
    + length v.provides

-- the names, in the order in which they first appear
abbrev pub names_of : List Listed → List (List ℕ)
names_of ps = distinct bytes_eq (map (λ p. p.name) ps)

-- the packages of a name, in the order of their versions (Policy 5.6.12)
abbrev pub packages_named : List Listed → List ℕ → List Package
packages_named ps name =
    sorted is_below (map (λ p. p.binary) (filter (λ p. bytes_eq name p.name) ps))

-- the relation entries of all of them
abbrev pub entries_of : List Listed → ℕ
entries_of ps = sum (map (λ p. entry_count p.binary) ps)

-- the names by number, and the packages of each by version
abbrev pub table_of : List Listed → PackageTable
table_of ps = record {
  names = names_of ps;
  packages = map (packages_named ps) (names_of ps);
  entries = entries_of ps;
}

-- ---- what is wrong with a package behind those before it

-- the code of the first rule that holds
abbrev pub first_code : List (Bool × ℕ) → Option ℕ
first_code [] = None
first_code (rule ∷ rules) = if rule.0 then Some rule.1 else first_code rules

-- more names or relation entries than the limits allow
abbrev pub is_over : PackageTable → Bool
is_over table = nat_lt MOST_NAMES (length table.names) || nat_lt MOST_ENTRIES table.entries

-- the packages of its name before it, and the table with it
abbrev pub rules_of : Package → List Package → PackageTable → List (Bool × ℕ)
rules_of v given table =
    (list_any (is_same v) given, TWICE)
    ∷ (nat_le MOST_VARIANTS (length given), TOO_MANY_VARIANTS)
    ∷ (is_over table, OVER_LIMIT) ∷ []

-- the code of what is wrong with a package behind those before it
abbrev pub package_fault : List Listed → Listed → Option ℕ
package_fault before p =
    first_code (rules_of p.binary (packages_named before p.name) (table_of (before ++ p ∷ [])))

-- what the paragraphs of the packages text say, or the first fault
unfoldable pub packages_of : List Paragraph → Result PackageTable Fault
packages_of ps =
    paragraphs_judged PACKAGES (item_fault package_at package_fault)
    (λ qs. table_of (goods package_at qs)) ps
