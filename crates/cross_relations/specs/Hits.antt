-- What a clash of a package hits, offer by offer. Only clauses of private functions cite this file.
--
--   hit_by a by o            the clash, which asks for this by its qualifier, is one with the offer
--   hit_in s a by own item   the same of what is offered by an item of Provides
--   hit_some s a by own es   the same of some item of these entries
use Rattle.std.specs.Prelude.{ℕ, Bool, false, ◌&&◌, List, Option}
use Rattle.std.specs.List.{list_any}
use Rattle.deb_relation.specs.Common.{Atom, Relations}
use Rattle.deb_relation.specs.declared.operator.Op.{Op}
use Rattle.cross_laws.specs.declared.types.MultiArch.TheVariants.{No}
use Rattle.cross_laws.specs.Binary.{Sides, Standing, Asked, Unsaid, Any, Native, Named, Elsewhere, asked, Offer}
use Rattle.cross_laws.specs.Meets.{fits}
use Rattle.cross_laws.specs.Excludes.{clashes}

abbrev pub hit_by : Atom → Asked → Offer → Bool
hit_by a by o = fits a o && clashes false o.standing by

abbrev pub offer : List ℕ → Option (Op × List ℕ) → Standing → Offer
offer name version own = record { name = name; version = version; standing = own }

abbrev pub hit_item : Atom → Asked → Standing → Atom → Asked → Bool
hit_item a by own item Unsaid = hit_by a by (offer item.name item.relation own)
hit_item a by own item (Named side) =
    hit_by a by (offer item.name item.relation (record { side = side; multi_arch = No }))
hit_item a by own item Any = false
hit_item a by own item Native = false
hit_item a by own item Elsewhere = false

abbrev pub hit_in : Sides → Atom → Asked → Standing → Atom → Bool
hit_in s a by own item = hit_item a by own item (asked s item.qualifier)

abbrev pub hit_some : Sides → Atom → Asked → Standing → Relations → Bool
hit_some s a by own entries =
    list_any (λ entry. list_any (λ item. hit_in s a by own item) entry) entries
