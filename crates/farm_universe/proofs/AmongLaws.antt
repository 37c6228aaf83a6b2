-- The members of a base chroot, found by the names that they go by.
use Rattle.std.proofs.Common.{◌≡◌, ℕ, Bool, true, false, ◌&&◌, ◌||◌, List, [], ◌∷◌, Option, None, Some, refl, sym, ap, subst, ◌∙◌}
use Rattle.std.specs.Cmp.{both_ways}
use Rattle.std.specs.List.{list_any, slice_get}
use Rattle.std.specs.Option.{is_none}
use Rattle.std.specs.Str.{bytes_eq}
use Rattle.std.proofs.lemmas.Bool.{and_parts, and_from}
use Rattle.std.proofs.lemmas.Slice.Eq.{bytes_eq-Decides}
use Rattle.deb_relation.specs.Common.{Atom, is_its_own, is_provided, provides_it}
use Rattle.item_index.specs.declared.item.Item.{Item}
use Rattle.item_index.specs.Items.{item, item_of, listed, IsIn}
use Rattle.item_index.proofs.ItemLaws.{any-at, any-found, any_atom-at, any_atom-found}
use Rattle.farm_universe.specs.Among.{there_and_passes, provides_at, is_another_member, at_owner, AreFound}
use Rattle.farm_universe.specs.BaseText.{Member, member_facts}

-- ---- tests of lists

spread : (o b w p x y : Bool)
    → ((o && (b && (w || p))) || (b && (x || y))) ≡ (b && (((o && w) || x) || ((o && p) || y)))
spread false false w p x y = refl
spread true false w p x y = refl
spread false true w p x y = refl
spread true true true p x y = refl
spread true true false false x y = refl
spread true true false true true y = refl
spread true true false true false y = refl

module _ {X : Type 0} (o : X → Bool) where
  -- one of two tests, under one that is the same for all
  pub any-either : (b : Bool) (f g : X → Bool) (xs : List X)
      → list_any (λ x. o x && (b && (f x || g x))) xs
      ≡ (b && (list_any (λ x. o x && f x) xs || list_any (λ x. o x && g x) xs))
  any-either true f g [] = refl
  any-either false f g [] = refl
  any-either b f g (x ∷ xs) =
      ap (λ y. (o x && (b && (f x || g x))) || y) (any-either b f g xs)
      ∙ spread (o x) b (f x) (g x) (list_any (λ x. o x && f x) xs) (list_any (λ x. o x && g x) xs)

  any-none : (xs : List X) → list_any (λ x. o x && false) xs ≡ false
  any-none [] = refl
  any-none (x ∷ xs) = by (o x) (any-none xs) where
    by : (b : Bool) → list_any (λ x. o x && false) xs ≡ false
        → ((b && false) || list_any (λ x. o x && false) xs) ≡ false
    by true none = none
    by false none = none

  -- some x passes with some y, whichever is asked first
  pub any-swap : {Y : Type 0} (p : X → Y → Bool) (xs : List X) (ys : List Y)
      → list_any (λ y. list_any (λ x. o x && p x y) xs) ys
      ≡ list_any (λ x. o x && list_any (p x) ys) xs
  any-swap p xs [] = sym (any-none xs)
  any-swap p xs (y ∷ ys) =
      ap (λ z. list_any (λ x. o x && p x y) xs || z) (any-swap p xs ys)
      ∙ sym (any-either true (λ x. p x y) (λ x. list_any (p x) ys) xs)

-- an alternative without a qualifier, by name or by what is provided
pub by_name : (bare named r : Bool) → (provided : Bool) → bare ≡ true → named ≡ true → r ≡ named
    → r ≡ (bare && (named || provided))
by_name true true r p b n is = is
by_name true false r p b n is = absurd cc
by_name false named r p b n is = absurd cc

pub by_item : (bare named r : Bool) → (provided : Bool) → bare ≡ true → named ≡ false
    → r ≡ provided → r ≡ (bare && (named || provided))
by_item true false r p b n is = is
by_item true true r p b n is = absurd cc
by_item false named r p b n is = absurd cc

pub by_none : (bare r : Bool) → (either : Bool) → bare ≡ false → r ≡ bare → r ≡ (bare && either)
by_none true r e b is = absurd cc
by_none false r e b is = is

-- ---- members by items

-- where each member that passes is listed with an item that tells it, and an item tells those that
-- pass alone, some item tells one just if some member passes
any-owner : (ms : List Member) (items : List (Item ℕ)) (test : Item ℕ → Member → Bool)
    (passes : Member → Bool)
    → ((at : Item ℕ) (m : Member) → test at m ≡ true → passes m ≡ true)
    → ((k : ℕ) (m : Member) → slice_get ms k ≡ Some m → passes m ≡ true
    → (at : Item ℕ) × IsIn items at × (at.owner ≡ k) × (test at m ≡ true))
    → list_any (λ at. at_owner (test at) ms at) items ≡ list_any passes ms
any-owner ms items test passes sound complete = both_ways _ _ on back where
  at_member : (at : Item ℕ) (o : Option Member) → slice_get ms at.owner ≡ o
      → there_and_passes (test at) o ≡ true → list_any passes ms ≡ true
  at_member at None e is = absurd cc
  at_member at (Some m) e is = any-at passes ms at.owner m e (sound at m is)

  on : list_any (λ at. at_owner (test at) ms at) items ≡ true → list_any passes ms ≡ true
  on some =
      let found = any-found (λ at. at_owner (test at) ms at) items some in
      at_member found.1 (slice_get ms found.1.owner) refl found.3

  back : list_any passes ms ≡ true → list_any (λ at. at_owner (test at) ms at) items ≡ true
  back some =
      let found = any-found passes ms some in
      let told = complete found.0 found.1 found.2 found.3 in
      any-at (λ at. at_owner (test at) ms at) items told.1.0 told.0 told.1.1
      (ap (there_and_passes (test told.0)) (ap (slice_get ms) told.2 ∙ found.2) ∙ told.3)

module _ (ms : List Member) (named provided : List (List (Item ℕ)))
    (are : AreFound ms named provided)
    (besides : Option ℕ) (a : Atom) where
  -- by their own names
  pub any-named : list_any
      (at_owner (λ m. is_another_member besides m && is_its_own (member_facts m) a) ms)
      (listed named a.name)
      ≡ list_any (λ m. is_another_member besides m && is_its_own (member_facts m) a) ms
  any-named =
      any-owner ms (listed named a.name)
      (λ at m. is_another_member besides m && is_its_own (member_facts m) a)
      (λ m. is_another_member besides m && is_its_own (member_facts m) a) (λ at m is. is) complete
    where
      complete : (k : ℕ) (m : Member) → slice_get ms k ≡ Some m
          → (is_another_member besides m && is_its_own (member_facts m) a) ≡ true
          → (at : Item ℕ) × IsIn (listed named a.name) at × (at.owner ≡ k)
          × ((is_another_member besides m && is_its_own (member_facts m) a) ≡ true)
      complete k m there is =
          let own = (and_parts (is_another_member besides m) _ is).1 in
          let same = (bytes_eq-Decides m.name a.name).0
          (and_parts (bytes_eq m.name a.name) _ own).0 in (
            item k 0 0,
            subst (λ text. IsIn (listed named text) (item k 0 0)) same (are.by_name k m there),
            refl,
            is,
          )

  -- by what they provide
  pub any-provided : list_any
      (λ at. at_owner (λ m. is_another_member besides m && provides_at at m a) ms at)
      (listed provided a.name)
      ≡ list_any (λ m. is_another_member besides m && is_provided m.binary.provides a) ms
  any-provided =
      any-owner ms (listed provided a.name)
      (λ at m. is_another_member besides m && provides_at at m a)
      (λ m. is_another_member besides m && is_provided m.binary.provides a) sound complete
    where
      told : (at : Item ℕ) (m : Member) (o : Option Atom) → item_of at m.binary.provides ≡ o
          → there_and_passes (provides_it a) o ≡ true → is_provided m.binary.provides a ≡ true
      told at m None e is = absurd cc
      told at m (Some p) e is =
          any_atom-at (provides_it a) m.binary.provides at.entry at.alternative p e is

      sound : (at : Item ℕ) (m : Member) → (is_another_member besides m && provides_at at m a)
          ≡ true
          → (is_another_member besides m && is_provided m.binary.provides a) ≡ true
      sound at m is =
          let parts = and_parts (is_another_member besides m) _ is in
          and_from _ _ parts.0 (told at m (item_of at m.binary.provides) refl parts.1)

      complete : (k : ℕ) (m : Member) → slice_get ms k ≡ Some m
          → (is_another_member besides m && is_provided m.binary.provides a) ≡ true
          → (at : Item ℕ) × IsIn (listed provided a.name) at × (at.owner ≡ k)
          × ((is_another_member besides m && provides_at at m a) ≡ true)
      complete k m there is =
          let parts = and_parts (is_another_member besides m) _ is in
          let found = any_atom-found (provides_it a) m.binary.provides parts.1 in
          let p = found.3 in
          let both = and_parts (is_none p.qualifier && bytes_eq p.name a.name) _ found.7 in
          let named = and_parts (is_none p.qualifier) _ both.0 in
          let same = (bytes_eq-Decides p.name a.name).0 named.1 in
          let at : Item ℕ = item k found.0 found.2 in (
            at,
            subst (λ text. IsIn (listed provided text) at) same
                (are.by_item k m there found.0 found.1 found.4 found.2 p found.5),
            refl,
            and_from _ _ parts.0 (ap (there_and_passes (provides_it a)) found.6 ∙ found.7),
          )
