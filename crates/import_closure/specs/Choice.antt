-- Which package of an index meets an entry best.
--
--   comes_before name a b    of two that satisfy an alternative with a name, the first is better
--   best_of atom gs          the best that satisfies an alternative
--   best_for entry gs        of the first alternative that one satisfies
use Rattle.std.specs.Prelude.{ℕ, Bool, true, false, ◌&&◌, ◌||◌, List, [], ◌∷◌, fold, if◌then◌else◌, Option, Some, None}
use Rattle.std.specs.Cmp.Lexicographic.{slice_cmp}
use Rattle.std.specs.Ordering.{nat_cmp}
use Rattle.std.specs.Str.{bytes_eq}
use Rattle.std.specs.declared.cmp.Ordering.{Ordering}
use Rattle.std.specs.declared.cmp.Ordering.TheVariants.{Less, Equal, Greater}
use Rattle.deb_text.specs.Steps.{or_else}
use Rattle.deb_version.specs.Grammar.{text_cmp}
use Rattle.deb_relation.specs.Common.{Atom, Entry, package_satisfies}
use Rattle.import_closure.specs.Given.{Given}

-- ---- two packages

abbrev pub then_by : Ordering → Bool → Bool
then_by Less equal = true
then_by Equal equal = equal
then_by Greater equal = false

abbrev pub is_greater : Ordering → Bool
is_greater Greater = true
is_greater Less = false
is_greater Equal = false

abbrev pub is_higher : Given → Given → Bool
is_higher a b = is_greater (text_cmp a.version b.version)

-- by Priority, then by name, then by version
abbrev pub provider_before : Given → Given → Bool
provider_before a b =
    then_by (nat_cmp a.rank b.rank) (then_by (slice_cmp nat_cmp a.name b.name) (is_higher a b))

-- the name itself before those that provide it
abbrev pub comes_before : List ℕ → Given → Given → Bool
comes_before name a b =
    if bytes_eq name b.name then bytes_eq name a.name && is_higher a b
    else bytes_eq name a.name || provider_before a b

-- ---- the best of several

abbrev pub is_fitting : Atom → Given → Bool
is_fitting atom g = package_satisfies
    (record { name = g.name; version = g.version; provides = g.relations.provides }) atom

abbrev pub beats : List ℕ → Given → Option Given → Bool
beats name g None = true
beats name g (Some best) = comes_before name g best

abbrev pub is_better : Atom → Option Given → Given → Bool
is_better atom best g = is_fitting atom g && beats atom.name g best

abbrev pub better_of : Atom → Option Given → Given → Option Given
better_of atom best g = if is_better atom best g then Some g else best

abbrev pub best_of : Atom → List Given → Option Given
best_of atom gs = fold (better_of atom) None gs

abbrev pub best_for : Entry → List Given → Option Given
best_for [] gs = None
best_for (atom ∷ atoms) gs = or_else (best_of atom gs) (best_for atoms gs)
