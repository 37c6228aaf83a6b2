-- What an encoded package satisfies, by what the package has and provides.
use Rattle.std.proofs.Common.{◌≡◌, Bool, true, false, not, ◌&&◌, ◌||◌, List, [], ◌∷◌, ◌++◌, map, refl, ap, ◌∙◌}
use Rattle.std.proofs.Math.Bool.{or-false}
use Rattle.std.proofs.lemmas.Bool.{not-true}
use Rattle.std.proofs.lemmas.List.Folds.{list_any-append}
use Rattle.std.specs.List.{list_any, list_all, flat_map}
use Rattle.std.specs.Str.{bytes_eq}
use Rattle.deb_relation.specs.Common.{Atom, is_its_own, package_satisfies, provides_it}
use Rattle.deb_relation.specs.Satisfaction.{Facts, provides_in}
use Rattle.cross_laws.specs.Binary.{Sides, Binary, Standing, standing, side_of, Asked, Unsaid, Any, Native, Named, Elsewhere, asked, Offer, itself, provided_as, provided, offers, atoms}
use Rattle.cross_laws.specs.Meets.{fits}
use Rattle.cross_laws.specs.Names.{Sense, Of, One, encoded, is_taken, is_mark}
use Rattle.cross_laws.specs.Encoding.{singles, further, senses, offered, encoded_provides, renamed, encoded_name}
use Rattle.cross_laws.specs.Clear.{is_free}
use Rattle.cross_laws.proofs.Lists.{any-same, any-alike, any-and, any-flat, any-map, any-singles, any-swap, all-flat, spread}
use Rattle.cross_laws.proofs.NameLaws.{is_sense, encoded-same}
use Rattle.cross_laws.proofs.Tables.{known, known_as, is_of_offers}

and-assoc : (a b c : Bool) → ((a && b) && c) ≡ (a && (b && c))
and-assoc true b c = refl
and-assoc false b c = refl

or-moved : (a b c d : Bool) → (a || (b || (c || d))) ≡ (((a || c) || b) || d)
or-moved true b c d = refl
or-moved false true true d = refl
or-moved false true false d = refl
or-moved false false true d = refl
or-moved false false false d = refl

-- what relations see of the encoded package
abbrev pub encoded_facts : Sides → Binary → Facts
encoded_facts s p = record {
  name = encoded_name s p;
  version = p.rest.version;
  provides = singles (encoded_provides s p);
}

abbrev offer_free : Sides → Offer → Bool
offer_free s o = not (is_taken s o.name)

provided-free : (s : Sides) (item : Atom) (own : Standing) (a : Asked) → is_free s item ≡ true
    → list_all (offer_free s) (provided_as item own a) ≡ true
provided-free s item own Unsaid free = rw free refl
provided-free s item own (Named side) free = rw free refl
provided-free s item own Any free = refl
provided-free s item own Native free = refl
provided-free s item own Elsewhere free = refl

module _ (s : Sides) (host : is_mark s.host ≡ true) (p : Binary) (named : is_taken s p.name ≡ false)
    (providing : list_all (is_free s) (atoms p.rest.provides) ≡ true) where
  all-provided-free : list_all (offer_free s) (provided s p) ≡ true
  all-provided-free =
      all-flat (offer_free s) (is_free s)
      (λ item. provided_as item (standing p) (asked s item.qualifier))
      (λ item. provided-free s item (standing p) (asked s item.qualifier))
      (atoms p.rest.provides) providing

  module _ (a : Atom) (free : is_taken s a.name ≡ false) (k : Sense) where
    abbrev wanted : Atom
    wanted = renamed s a k

    -- one encoded offer, of a sense
    fits-sense : (o : Offer) → is_taken s o.name ≡ false → (j : Sense)
        → (bytes_eq (encoded s j o.name) (encoded s k a.name) && provides_in a.relation o.version)
        ≡ (is_sense j k && fits a o)
    fits-sense o own j =
        ap (λ b. b && provides_in a.relation o.version)
        (encoded-same s host j k o.name a.name own free)
        ∙ and-assoc (is_sense j k) (bytes_eq o.name a.name) (provides_in a.relation o.version)

    offer-known : (o : Offer) → is_taken s o.name ≡ false → (js : List Sense)
        → list_any (λ i. provides_it wanted i) (map (offered s o) js)
        ≡ (list_any (λ j. is_sense j k) js && fits a o)
    offer-known o own js =
        any-map (λ i. provides_it wanted i) (offered s o) js
        ∙ any-same (λ j. provides_it wanted (offered s o j)) (λ j. is_sense j k && fits a o)
        (fits-sense o own) js
        ∙ any-and (λ j. is_sense j k) (fits a o) js

    all-known : list_any (λ i. provides_it wanted i)
        (flat_map (λ o. map (offered s o) (senses o.standing)) (provided s p))
        ≡ list_any (λ o. known o.standing k && fits a o) (provided s p)
    all-known =
        any-flat (λ i. provides_it wanted i) (λ o. map (offered s o) (senses o.standing))
        (provided s p)
        ∙ any-alike (offer_free s)
        (λ o. list_any (λ i. provides_it wanted i) (map (offered s o) (senses o.standing)))
        (λ o. known o.standing k && fits a o)
        (λ o own. offer-known o (not-true (is_taken s o.name) own) (senses o.standing))
        (provided s p) all-provided-free

    abbrev of_items : Bool
    of_items = list_any (λ o. known o.standing k && fits a o) (provided s p)

    abbrev of_further : Bool
    of_further = list_any (λ j. is_sense j k) (further (standing p))

    abbrev own_names : List Atom
    own_names = map (offered s (itself p)) (further (standing p)) ++ offered s (itself p) One ∷ []

    parts : list_any (λ i. provides_it wanted i) (encoded_provides s p)
        ≡ (of_items || ((of_further && fits a (itself p)) || (is_sense One k && fits a (itself p))))
    parts =
        list_any-append (λ i. provides_it wanted i)
        (flat_map (λ o. map (offered s o) (senses o.standing)) (provided s p))
        own_names
        ∙ ap (λ b. b || list_any (λ i. provides_it wanted i) own_names) all-known
        ∙ ap (λ b. of_items || b)
        (list_any-append (λ i. provides_it wanted i)
        (map (offered s (itself p)) (further (standing p))) (offered s (itself p) One ∷ [])
        ∙ ap (λ b. b || list_any (λ i. provides_it wanted i) (offered s (itself p) One ∷ []))
        (offer-known (itself p) named (further (standing p)))
        ∙ ap (λ b. (of_further && fits a (itself p)) || b)
        (or-false (provides_it wanted (offered s (itself p) One))
        ∙ fits-sense (itself p) named One))

    pub satisfies-sense : package_satisfies (encoded_facts s p) wanted
        ≡ (list_any (λ o. known o.standing k && fits a o) (offers s p)
        || (is_sense One k && fits a (itself p)))
    satisfies-sense =
        ap (λ b. is_its_own (encoded_facts s p) wanted || b)
        (any-singles (λ i. provides_it wanted i) (encoded_provides s p) ∙ parts)
        ∙ ap (λ b. b || (of_items
        || ((of_further && fits a (itself p)) || (is_sense One k && fits a (itself p)))))
        (fits-sense (itself p) named (Of (side_of p.architecture)))
        ∙ or-moved (is_sense (Of (side_of p.architecture)) k && fits a (itself p)) of_items
        (of_further && fits a (itself p)) (is_sense One k && fits a (itself p))
        ∙ ap (λ b. (b || of_items) || (is_sense One k && fits a (itself p)))
        (spread (is_sense (Of (side_of p.architecture)) k) of_further (fits a (itself p)))

  module _ (a : Atom) (free : is_taken s a.name ≡ false) where
    pub without-one : (k : Sense) → is_of_offers k ≡ true
        → package_satisfies (encoded_facts s p) (renamed s a k)
        ≡ list_any (λ o. known o.standing k && fits a o) (offers s p)
    without-one k of =
        satisfies-sense a free k
        ∙ ap (λ b. list_any (λ o. known o.standing k && fits a o) (offers s p)
        || (b && fits a (itself p))) (not-true (is_sense One k) of)
        ∙ or-false (list_any (λ o. known o.standing k && fits a o) (offers s p))

    pub satisfies-senses : (ks : List Sense) → list_all is_of_offers ks ≡ true
        → list_any (λ b. package_satisfies (encoded_facts s p) b) (map (renamed s a) ks)
        ≡ list_any (λ o. known_as o.standing ks && fits a o) (offers s p)
    satisfies-senses ks of =
        any-map (λ b. package_satisfies (encoded_facts s p) b) (renamed s a) ks
        ∙ any-alike is_of_offers (λ k. package_satisfies (encoded_facts s p) (renamed s a k))
        (λ k. list_any (λ o. known o.standing k && fits a o) (offers s p)) without-one ks of
        ∙ any-swap (λ k o. known o.standing k && fits a o) ks (offers s p)
        ∙ any-same (λ o. list_any (λ k. known o.standing k && fits a o) ks)
        (λ o. known_as o.standing ks && fits a o)
        (λ o. any-and (λ k. known o.standing k) (fits a o) ks) (offers s p)
