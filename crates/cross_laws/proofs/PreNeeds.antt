-- The law of Pre-Depends, of which one alternative has to be satisfied by two variants of a name.
use Rattle.std.proofs.Common.{◌≡◌, ℕ, Bool, true, false, not, ◌&&◌, ◌||◌, List, [], ◌∷◌, Some, if◌then◌else◌, refl, sym, ap, ◌∙◌, subst}
use Rattle.std.proofs.lemmas.Bool.{and_parts, and_from, not-true}
use Rattle.std.specs.List.{list_any, list_all, Contains}
use Rattle.std.specs.Str.{bytes_eq}
use Rattle.deb_relation.specs.Common.{Atom, Entry, package_satisfies}
use Rattle.farm_model.specs.Common.{Universe, variant, satisfies, both_satisfy}
use Rattle.cross_laws.specs.declared.types.Side.{Side}
use Rattle.cross_laws.specs.declared.types.Side.TheVariants.{Build, Host}
use Rattle.cross_laws.specs.declared.types.MultiArch.{MultiArch}
use Rattle.cross_laws.specs.declared.types.MultiArch.TheVariants.{No, Same, Foreign, Allowed}
use Rattle.cross_laws.specs.Binary.{Sides, Binary, standing, side_of, is_side, Asked, Unsaid, Any, Native, Named, Elsewhere, asked, Offer, itself, provided_as, provided, offers, atoms}
use Rattle.cross_laws.specs.Meets.{Asker, fits, meets}
use Rattle.cross_laws.specs.Names.{Sense, Of, ForAny, is_taken}
use Rattle.cross_laws.specs.Encoding.{renamed, need_senses, named_or_unmet, any_senses, encoded_need, encoded_entry, encoded_name}
use Rattle.cross_laws.specs.Clear.{is_clear_atom, is_clear_entry, IsClearUniverse}
use Rattle.cross_laws.specs.Laws.{IsEncoded, both_meet}
use Rattle.cross_laws.proofs.Lists.{any-same, any-alike, any-none, any-flat, all-flat}
use Rattle.cross_laws.proofs.NameLaws.{bytes-self, encoded-same, side-same}
use Rattle.cross_laws.proofs.Tables.{known}
use Rattle.cross_laws.proofs.Satisfied.{encoded_facts, without-one}
use Rattle.cross_laws.proofs.Encoded.{stays-off, satisfies-encoded, need-met}

-- ---- a package serves those that ask for `:any` from its own side alone

abbrev is_silent : Side → Offer → Bool
is_silent y o = not (known o.standing (ForAny y))

silent-standing : (x : Side) (m : MultiArch) (y : Side) → is_side x y ≡ false
    → not (known (record { side = x; multi_arch = m }) (ForAny y)) ≡ true
silent-standing x No y other = refl
silent-standing x Same y other = refl
silent-standing Build Foreign y other = refl
silent-standing Host Foreign y other = refl
silent-standing x Allowed y other = rw other refl

module _ (s : Sides) (p : Binary) (y : Side)
    (other : is_side (side_of p.architecture) y ≡ false) where
  silent-item : (item : Atom) (a : Asked)
      → list_all (is_silent y) (provided_as item (standing p) a) ≡ true
  silent-item item Unsaid =
      rw (silent-standing (side_of p.architecture) p.multi_arch y other) refl
  silent-item item (Named side) = refl
  silent-item item Any = refl
  silent-item item Native = refl
  silent-item item Elsewhere = refl

  all-items : (items : List Atom) → list_all (λ (item : Atom). true) items ≡ true
  all-items [] = refl
  all-items (item ∷ items) = all-items items

  silent-offers : list_all (is_silent y) (offers s p) ≡ true
  silent-offers =
      and_from (is_silent y (itself p)) (list_all (is_silent y) (provided s p))
      (silent-standing (side_of p.architecture) p.multi_arch y other)
      (all-flat (is_silent y) (λ (item : Atom). true)
      (λ item. provided_as item (standing p) (asked s item.qualifier))
      (λ item passes. silent-item item (asked s item.qualifier)) (atoms p.rest.provides)
      (all-items (atoms p.rest.provides)))

  pub none-known : (a : Atom)
      → list_any (λ o. known o.standing (ForAny y) && fits a o) (offers s p) ≡ false
  none-known a =
      any-alike (is_silent y) (λ o. known o.standing (ForAny y) && fits a o) (λ (o : Offer). false)
      (λ o silent. ap (λ b. b && fits a o) (not-true (known o.standing (ForAny y)) silent))
      (offers s p) silent-offers
      ∙ any-none (offers s p)

-- ---- one alternative, and both

both-alone : (a b : Bool) → ((a && b) || false) ≡ ((a || false) && (b || false))
both-alone true b = refl
both-alone false b = refl

both-first : (a b c d : Bool) → b ≡ false → d ≡ false
    → ((a && c) || ((b && d) || false)) ≡ ((a || (b || false)) && (c || (d || false)))
both-first a b c d left right = rw (left, right) (both-alone a c)

both-second : (a b c d : Bool) → a ≡ false → c ≡ false
    → ((a && c) || ((b && d) || false)) ≡ ((a || (b || false)) && (c || (d || false)))
both-second a b c d left right = rw (left, right) (both-alone b d)

module _ (s : Sides) (all : List Binary) (clear : IsClearUniverse s all) (u : Universe)
    (n b last : ℕ) (p q : Binary) (of : IsEncoded s all u (variant n b) p)
    (is : IsEncoded s all u (variant n last) q) where
  abbrev sat : Binary → Atom → Bool
  sat r a = package_satisfies (encoded_facts s r) a

  abbrev own_side : Side
  own_side = side_of p.architecture

  abbrev last_side : Side
  last_side = side_of q.architecture

  one-side : own_side ≡ last_side
  one-side =
      let own = clear.each p of.member in
      let other = clear.each q is.member in
      let names : encoded_name s p ≡ encoded_name s q = sym of.name ∙ is.name in
      let same : bytes_eq (encoded_name s p) (encoded_name s q) ≡ true =
      subst (λ name. bytes_eq (encoded_name s p) name ≡ true) names
      (bytes-self (encoded_name s p)) in
      let alike =
      encoded-same s clear.host (Of own_side) (Of last_side) p.name q.name own.name other.name in
      side-same own_side last_side
      (and_parts (is_side own_side last_side) (bytes_eq p.name q.name) (sym alike ∙ same)).0

  module _ (a : Atom) (free : is_taken s a.name ≡ false) where
    silent : (r : Binary) → Contains all r → (y : Side) → is_side (side_of r.architecture) y ≡ false
        → sat r (renamed s a (ForAny y)) ≡ false
    silent r here y other =
        let own = clear.each r here in
        without-one s clear.host r own.name own.provides a free (ForAny y) refl
        ∙ none-known s r y other a

    -- both satisfy one of these
    abbrev both_satisfy_one : List Sense → Bool
    both_satisfy_one ks = list_any (λ c. sat p c && sat q c) (named_or_unmet s a ks)

    -- each satisfies one of these
    abbrev each_satisfies_one : List Sense → Bool
    each_satisfies_one ks =
        list_any (sat p) (named_or_unmet s a ks) && list_any (sat q) (named_or_unmet s a ks)

    by-one : (k : Sense) → both_satisfy_one (k ∷ []) ≡ each_satisfies_one (k ∷ [])
    by-one k = both-alone (sat p (renamed s a k)) (sat q (renamed s a k))

    of-side : (x : Side) → side_of p.architecture ≡ x
        → both_satisfy_one (any_senses Host) ≡ each_satisfies_one (any_senses Host)
    of-side Build e =
        both-first (sat p (renamed s a (ForAny Build))) (sat p (renamed s a (ForAny Host)))
        (sat q (renamed s a (ForAny Build))) (sat q (renamed s a (ForAny Host)))
        (silent p of.member Host (ap (λ z. is_side z Host) e))
        (silent q is.member Host (ap (λ z. is_side z Host) (sym one-side ∙ e)))
    of-side Host e =
        both-second (sat p (renamed s a (ForAny Build))) (sat p (renamed s a (ForAny Host)))
        (sat q (renamed s a (ForAny Build))) (sat q (renamed s a (ForAny Host)))
        (silent p of.member Build (ap (λ z. is_side z Build) e))
        (silent q is.member Build (ap (λ z. is_side z Build) (sym one-side ∙ e)))

    for-any : (x : Side) → both_satisfy_one (any_senses x) ≡ each_satisfies_one (any_senses x)
    for-any Build = by-one (ForAny Build)
    for-any Host = of-side (side_of p.architecture) refl

    for-native : (is_build : Bool) → both_satisfy_one (if is_build then Of Build ∷ [] else [])
        ≡ each_satisfies_one (if is_build then Of Build ∷ [] else [])
    for-native true = by-one (Of Build)
    for-native false = refl

    for-asked : (at : Asker) (x : Asked)
        → both_satisfy_one (need_senses at x) ≡ each_satisfies_one (need_senses at x)
    for-asked at Unsaid = by-one (Of at.side)
    for-asked at Any = for-any at.side
    for-asked at (Named side) = by-one (Of side)
    for-asked at Native = for-native at.is_build
    for-asked at Elsewhere = refl

  both-one : (at : Asker) (a : Atom) → is_clear_atom s all a ≡ true
      → list_any (λ c. sat p c && sat q c) (encoded_need s at a)
      ≡ (meets s at a p && meets s at a q)
  both-one at a a_clear =
      let off = stays-off s all p of.member a a_clear in
      for-asked a off.free at (asked s a.qualifier)
      ∙ ap (λ b. b && list_any (sat q) (encoded_need s at a))
      (need-met s all clear u (variant n b) p of at a a_clear)
      ∙ ap (λ b. meets s at a p && b)
      (need-met s all clear u (variant n last) q is at a a_clear)

  pub both-met : (at : Asker) (entry : Entry) → is_clear_entry s all entry ≡ true
      → both_satisfy u (encoded_entry s at entry) n b (Some last) ≡ both_meet s at entry p q
  both-met at entry e_clear =
      any-same (λ a. satisfies u a (variant n b) && satisfies u a (variant n last))
      (λ a. sat p a && sat q a)
      (λ a. ap (λ c. c && satisfies u a (variant n last))
      (satisfies-encoded s all clear u (variant n b) p of a)
      ∙ ap (λ c. sat p a && c) (satisfies-encoded s all clear u (variant n last) q is a))
      (encoded_entry s at entry)
      ∙ any-flat (λ a. sat p a && sat q a) (encoded_need s at) entry
      ∙ any-alike (is_clear_atom s all)
      (λ a. list_any (λ c. sat p c && sat q c) (encoded_need s at a))
      (λ a. meets s at a p && meets s at a q) (both-one at) entry e_clear
