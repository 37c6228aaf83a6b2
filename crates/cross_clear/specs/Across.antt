-- What packages would be taken for by the names of one architecture, offer by offer. Only clauses of
-- private functions cite this file, but for the last definition.
--
--   offer name version own       what has, or provides, a name in a version or none
--   by_item f own item by        an item of Provides, whose qualifier asks for this, offers what passes
--   by_some s f own es           the same of some item of these entries
--   across_by a by o             the offer has what is asked for, and dpkg does not take it
--   taken_by t o                 the offer has the name and version of a package, and counts for its side
--   is_across_none s a all       no package would be taken for an alternative, and not by dpkg
use Rattle.std.specs.Prelude.{ℕ, Bool, false, not, ◌&&◌, List, Option}
use Rattle.std.specs.List.{list_all, list_any}
use Rattle.deb_relation.specs.Common.{Atom, Relations}
use Rattle.deb_relation.specs.declared.operator.Op.{Op}
use Rattle.cross_laws.specs.declared.types.MultiArch.TheVariants.{No}
use Rattle.cross_laws.specs.Binary.{Sides, Binary, Standing, Asked, Unsaid, Any, Native, Named, Elsewhere, asked, Offer}
use Rattle.cross_laws.specs.Clear.{is_across, takes_across}
use Rattle.cross_laws.specs.Encoding.{asker, exactly}
use Rattle.cross_laws.specs.Meets.{counts, fits}

abbrev pub offer : List ℕ → Option (Op × List ℕ) → Standing → Offer
offer name version own = record { name = name; version = version; standing = own }

abbrev pub by_item : (Offer → Bool) → Standing → Atom → Asked → Bool
by_item f own item Unsaid = f (offer item.name item.relation own)
by_item f own item (Named side) =
    f (offer item.name item.relation (record { side = side; multi_arch = No }))
by_item f own item Any = false
by_item f own item Native = false
by_item f own item Elsewhere = false

abbrev pub by_some : Sides → (Offer → Bool) → Standing → Relations → Bool
by_some s f own entries =
    list_any (λ entry. list_any (λ item. by_item f own item (asked s item.qualifier)) entry) entries

abbrev pub across_by : Atom → Asked → Offer → Bool
across_by a by o = fits a o && takes_across by o.standing

abbrev pub taken_by : Binary → Offer → Bool
taken_by t o = fits (exactly t) o && counts (asker t) o.standing Unsaid

abbrev pub is_across_none : Sides → Atom → List Binary → Bool
is_across_none s a all = list_all (λ q. not (is_across s a q)) all
