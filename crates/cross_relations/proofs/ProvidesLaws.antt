-- What a package provides, item by item.
use Rattle.std.proofs.Common.{◌≡◌, List, [], ◌∷◌, ◌++◌, map, refl, sym, ap, ◌∙◌}
use Rattle.std.proofs.lemmas.List.{append-nil}
use Rattle.std.proofs.lemmas.List.Concat.{flat_map-append}
use Rattle.std.specs.List.{flat_map}
use Rattle.deb_relation.specs.Common.{Atom}
use Rattle.cross_laws.specs.Binary.{Sides, Binary, Standing, Offer, Asked, Unsaid, Any, Native, Named, Elsewhere, asked, provided_as, standing, atoms}
use Rattle.cross_laws.specs.Encoding.{encoded_provides, further, offered, senses, singles}
use Rattle.cross_relations.specs.Provides.{item_in, item_of, of_item, own_offers}
use Rattle.cross_relations.proofs.EntryLaws.{singles-append}

-- an offer in each sense in which it counts
abbrev in_senses : Sides → Offer → List Atom
in_senses s o = map (offered s o) (senses o.standing)

module _ (s : Sides) (own : Standing) where
  one-item : (item : Atom) (by : Asked)
      → item_of s own item by ≡ flat_map (in_senses s) (provided_as item own by)
  one-item item Unsaid = sym (append-nil (of_item s item (senses own)))
  one-item item (Named side) = refl
  one-item item Any = refl
  one-item item Native = refl
  one-item item Elsewhere = refl

  pub all-items : (items : List Atom)
      → flat_map (item_in s own) items
      ≡ flat_map (in_senses s)
      (flat_map (λ item. provided_as item own (asked s item.qualifier)) items)
  all-items [] = refl
  all-items (item ∷ items) =
      let by = asked s item.qualifier in
      let rest = flat_map (λ (it : Atom). provided_as it own (asked s it.qualifier)) items in
      ap (λ (one : List Atom). one ++ flat_map (item_in s own) items) (one-item item by)
      ∙ ap (λ (more : List Atom). flat_map (in_senses s) (provided_as item own by) ++ more)
      (all-items items)
      ∙ sym (flat_map-append (in_senses s) (provided_as item own by) rest)

pub all-provided : (s : Sides) (p : Binary)
    → singles (flat_map (item_in s (standing p)) (atoms p.rest.provides))
    ++ singles (own_offers s p (further (standing p)))
    ≡ singles (encoded_provides s p)
all-provided s p =
    let own = own_offers s p (further (standing p)) in
    sym (singles-append (flat_map (item_in s (standing p)) (atoms p.rest.provides)) own)
    ∙ ap (λ (items : List Atom). singles (items ++ own))
    (all-items s (standing p) (atoms p.rest.provides))
