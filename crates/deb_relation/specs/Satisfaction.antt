-- When a package satisfies an alternative (Debian Policy 7.1, and 7.5 for virtual packages).
--
--   in_relation r v     the version v stands in the relation r
--   package_satisfies facts a  the package satisfies the alternative a
use Rattle.std.specs.Prelude.{ℕ, Bool, true, ◌&&◌, ◌||◌, List, Option, Some, None}
use Rattle.std.specs.List.{list_any}
use Rattle.std.specs.Option.{is_none}
use Rattle.std.specs.Ordering.{is_lt, is_le, is_eq, is_ge, is_gt}
use Rattle.std.specs.declared.cmp.Ordering.{Ordering}
use Rattle.std.specs.Str.{bytes_eq}
use Rattle.deb_version.specs.Grammar.{text_cmp}
use Rattle.deb_relation.specs.declared.operator.Op.{Op}
use Rattle.deb_relation.specs.declared.operator.Op.TheVariants.{Earlier, EarlierOrEqual, Equal, LaterOrEqual, Later}
use Rattle.deb_relation.specs.Relations.{Atom, Relations}

-- what is known of one package: its name, its version, and what it provides
pub record Facts : Type 0 where
  pub name : List ℕ
  pub version : List ℕ
  pub provides : Relations

-- "<<, <=, =, >= and >> for strictly earlier, earlier or equal, exactly equal, later or equal and
-- strictly later": op admits a version that stands so to the one in the relation
abbrev pub admits : Op → Ordering → Bool
admits Earlier order = is_lt order
admits EarlierOrEqual order = is_le order
admits Equal order = is_eq order
admits LaterOrEqual order = is_ge order
admits Later order = is_gt order

-- where there is no relation, every version
abbrev pub in_relation : Option (Op × List ℕ) → List ℕ → Bool
in_relation None version = true
in_relation (Some (op, bound)) version = admits op (text_cmp version bound)

-- the package itself has the name, and a version in the relation
abbrev pub is_its_own : Facts → Atom → Bool
is_its_own facts atom = bytes_eq facts.name atom.name && in_relation atom.relation facts.version

-- Policy 7.5: a Provides that states no version satisfies no relation that does
abbrev pub provides_in : Option (Op × List ℕ) → Option (Op × List ℕ) → Bool
provides_in wanted None = is_none wanted
provides_in wanted (Some (op, version)) = in_relation wanted version

-- what is provided has the name; by this project's own rule, under a qualifier nothing is provided
abbrev pub provides_it : Atom → Atom → Bool
provides_it atom provided =
    is_none provided.qualifier
    && bytes_eq provided.name atom.name
    && provides_in atom.relation provided.relation

abbrev pub is_provided : Relations → Atom → Bool
is_provided provides atom = list_any (λ entry. list_any (provides_it atom) entry) provides

-- by this project's own rule no package satisfies an alternative with a qualifier (those that mean
-- nothing are taken off before)
abbrev pub package_satisfies : Facts → Atom → Bool
package_satisfies facts atom =
    is_none atom.qualifier && (is_its_own facts atom || is_provided facts.provides atom)
