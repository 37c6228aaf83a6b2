-- What a package provides, item by item. Only clauses of private functions cite this file.
--
--   of_item s item senses     the item under its names in these senses
--   item_of s own item asked  the item in each sense in which it counts
--   item_in s own item        the same, as its own qualifier asks
--   own_offers s p f          the package itself in these senses, and as one of the two of its name
use Rattle.std.specs.Prelude.{List, [], ◌∷◌, ◌++◌, map}
use Rattle.deb_relation.specs.Common.{Atom}
use Rattle.cross_laws.specs.Binary.{Sides, Binary, Standing, Asked, Unsaid, Any, Native, Named, Elsewhere, asked, itself}
use Rattle.cross_laws.specs.Names.{Sense, Of, One, encoded}
use Rattle.cross_laws.specs.Encoding.{offered, plain, senses}

abbrev pub of_item : Sides → Atom → List Sense → List Atom
of_item s item in_senses =
    map (λ sense. plain (encoded s sense item.name) item.relation) in_senses

abbrev pub item_of : Sides → Standing → Atom → Asked → List Atom
item_of s own item Unsaid = of_item s item (senses own)
item_of s own item (Named side) = of_item s item (Of side ∷ [])
item_of s own item Any = []
item_of s own item Native = []
item_of s own item Elsewhere = []

abbrev pub item_in : Sides → Standing → Atom → List Atom
item_in s own item = item_of s own item (asked s item.qualifier)

abbrev pub own_offers : Sides → Binary → List Sense → List Atom
own_offers s p further = map (offered s (itself p)) further ++ offered s (itself p) One ∷ []
