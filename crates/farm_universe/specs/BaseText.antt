-- A base chroot of the farm text (the project's own format).
--
--   is_settled_base table capacity vs    these variants can be what a base chroot holds
--   held_at table p                      what it holds, whatever base chroots stand before it
--   base_at table before p               what a paragraph says, behind the base chroots before it
use Rattle.std.specs.Prelude.{ℕ, ◌+◌, Bool, true, ◌&&◌, ◌||◌, not, ◌==◌, nat_le, List, [], ◌∷◌, map, get_or, length, Option, Some, None, Result, Ok, codes}
use Rattle.std.specs.List.{list_any, list_all}
use Rattle.std.specs.Str.{bytes_eq}
use Rattle.deb_text.specs.Steps.{◌>>=◌}
use Rattle.deb_stanza.specs.Stanza.{Paragraph, value_of}
use Rattle.deb_relation.specs.Relations.{Entry, Relations}
use Rattle.deb_relation.specs.Satisfaction.{Facts, package_satisfies}
use Rattle.farm_model.specs.Common.{no_package, Package, Base}
use Rattle.farm_model.specs.declared.types.Variant.{Variant}
use Rattle.farm_universe.specs.declared.error.TheConstants.{TWICE, UNSETTLED_BASE, OVER_LIMIT}
use Rattle.farm_universe.specs.declared.limits.TheConstants.{MOST_BASES, MOST_CAPACITY}
use Rattle.farm_universe.specs.Fields.{needed_at, package_name_at, number_up_to, refused_if}
use Rattle.farm_universe.specs.ListText.{list_at}
use Rattle.farm_universe.specs.PackagesText.{PackageTable}

-- ---- what a base chroot may hold

-- a variant of a list, with what is known of it
pub record Member : Type 0 where
  -- the number of its name, and the name
  pub number : ℕ
  pub name : List ℕ
  pub binary : Package

abbrev pub member_of : PackageTable → Variant → Member
member_of table v = record {
  number = v.name;
  name = get_or table.names v.name [];
  binary = get_or (get_or table.packages v.name []) v.bit no_package;
}

-- what relations see of it
abbrev pub member_facts : Member → Facts
member_facts m = record {
  name = m.name;
  version = m.binary.version;
  provides = m.binary.provides;
}

-- it satisfies some alternative of the entry; some entry of the field (Debian Policy 7.1)
abbrev pub member_meets : Member → Entry → Bool
member_meets m e = list_any (package_satisfies (member_facts m)) e

abbrev pub meets_any : Member → Relations → Bool
meets_any m field = list_any (member_meets m) field

-- no two of one name
abbrev pub one_of_each : List Member → Bool
one_of_each [] = true
one_of_each (m ∷ ms) = not (list_any (λ other. other.number == m.number) ms) && one_of_each ms

-- each entry of the field is satisfied by one of them
abbrev pub are_met : List Member → Relations → Bool
are_met ms field = list_all (λ e. list_any (λ m. member_meets m e) ms) field

-- Depends and Pre-Depends of each are met among them (Policy 7.2)
unfoldable pub all_met : List Member → Bool
all_met ms = list_all (λ m. are_met ms m.binary.depends && are_met ms m.binary.pre_depends) ms

-- the first declares a conflict with the second (Policy 7.4), or breaks it (7.3); no package
-- excludes one of its own name
abbrev pub excludes : Member → Member → Bool
excludes m other =
    not (other.number == m.number)
    && (meets_any other m.binary.conflicts || meets_any other m.binary.breaks)

unfoldable pub some_excluded : List Member → Bool
some_excluded ms = list_any (λ m. list_any (excludes m) ms) ms

-- the disk space that they take, in KiB
abbrev pub size_of_all : List Member → ℕ
size_of_all [] = 0
size_of_all (m ∷ ms) = m.binary.size + size_of_all ms

-- one variant of a name, each entry met, none excluded, within the capacity
abbrev pub are_settled : ℕ → List Member → Bool
are_settled capacity ms =
    one_of_each ms && all_met ms && not (some_excluded ms) && nat_le (size_of_all ms) capacity

unfoldable pub is_settled_base : PackageTable → ℕ → List Variant → Bool
is_settled_base table capacity vs = are_settled capacity (map (member_of table) vs)

-- ---- the paragraph

-- absent: empty
abbrev pub packages_at : PackageTable → Option (List ℕ) → Result (List Variant) ℕ
packages_at table None = Ok []
packages_at table (Some text) = list_at table text

-- a name that no base chroot before has
abbrev pub base_name : List Base → List ℕ → Result (List ℕ) ℕ
base_name before given = do
  name ← package_name_at given
  free ← refused_if (list_any (λ base. bytes_eq name base.name) before) TWICE
  Ok name

-- its capacity in KiB, and the variants that it holds
unfoldable pub held_at : PackageTable → Paragraph → Result (ℕ × List Variant) ℕ
held_at table p = do
  spelled ← needed_at p (codes "Capacity")
  capacity ← number_up_to MOST_CAPACITY spelled
  packages ← packages_at table (value_of p (codes "Packages"))
  settled ← refused_if (not (is_settled_base table capacity packages)) UNSETTLED_BASE
  Ok (capacity, packages)

-- the fields in the order in which they are looked at
unfoldable pub base_at : PackageTable → List Base → Paragraph → Result Base ℕ
base_at table before p = do
  given ← needed_at p (codes "Chroot")
  name ← base_name before given
  held ← held_at table p
  free ← refused_if (nat_le MOST_BASES (length before)) OVER_LIMIT
  Ok (record { name = name; capacity = held.0; packages = held.1 })
