-- Which names may have a variant for an entry, and whether one has.
use Rattle.std.proofs.Common.{◌≡◌, ℕ, ◌<◌, Bool, true, false, ◌&&◌, List, Some, slice_get, inl, inr, refl, sym, ap, ◌∙◌, subst, true≢false}
use Rattle.std.specs.Option.{is_none}
use Rattle.std.specs.Str.{bytes_eq}
use Rattle.std.proofs.lemmas.Bool.{or_cases, and_parts, cases_Bool}
use Rattle.deb_text.proofs.ListLaws.{bytes-same}
use Rattle.deb_relation.specs.Common.{Atom, Entry, is_its_own, provides_it}
use Rattle.farm_model.specs.Common.{some_below, Universe, names, variant, variants, package_of, facts, satisfies, satisfies_entry}
use Rattle.farm_model.proofs.BelowLaws.{some_below-at, some_below-found}
use Rattle.farm_universe.proofs.PlaceLaws.{named}
use Rattle.item_index.specs.declared.item.Item.{Item}
use Rattle.item_index.specs.Items.{item, listed, IsIn}
use Rattle.item_index.proofs.ItemLaws.{any-at, any-found, any_atom-found}
use Rattle.farm_lookup.specs.Candidates.{AreCandidates, HasAll, NoneAmong, NoneOf, has_variant}
use Rattle.farm_lookup.specs.Unmet.{is_met}

module _ (u : Universe) (lists : List (List (Item ℕ))) (are : AreCandidates u lists) where
  -- the name of a variant that satisfies an alternative is listed under the name of that
  candidate : (a : Atom) (n b : ℕ) → b < variants u n → satisfies u a (variant n b) ≡ true
      → (at : Item ℕ) × IsIn (listed lists a.name) at × (at.owner ≡ n)
  unfolding satisfies facts
  candidate a n b lt is =
      let both = and_parts (is_none a.qualifier) _ is in
      let here = are n (named u n b lt) in
      elim (or_cases (is_its_own (facts u (variant n b)) a) _ both.1) [
        | inl own ↦
            let same = bytes-same _ a.name (and_parts (bytes_eq (facts u (variant n b)).name a.name) _ own).0 in
            (item n 0 0, subst (λ text. IsIn (listed lists text) (item n 0 0)) same here.own, refl)
        | inr provided ↦
            let found = any_atom-found (provides_it a) (package_of u (variant n b)).provides provided in
            let at : Item ℕ = item n found.0 found.2 in
            let names = and_parts (is_none found.3.qualifier && bytes_eq found.3.name a.name) _ found.7 in
            let same = bytes-same found.3.name a.name (and_parts (is_none found.3.qualifier) _ names.0).1 in (
              at,
              subst (λ text. IsIn (listed lists text) at) same
                  (here.provided b lt found.0 found.1 found.4 found.2 found.3 found.5),
              refl,
            )
      ]

-- whose variants satisfy an alternative of a name is among those listed under it
pub named_all : (u known : Universe) (lists : List (List (Item ℕ))) (name : List ℕ)
    (items : List (Item ℕ)) → AreCandidates u lists → known ≡ u → items ≡ listed lists name
    → HasAll known name items
named_all u known lists name items are same is a its n b lt sat =
    let lt_u : b < variants u n = subst (λ k. b < variants k n) same lt in
    let sat_u : satisfies u a (variant n b) ≡ true =
    subst (λ k. satisfies k a (variant n b) ≡ true) same sat in
    let at = candidate u lists are a n b lt_u sat_u in (
      at.1.0,
      at.0,
      ap (λ xs. slice_get xs at.1.0) is
          ∙ subst (λ text. slice_get (listed lists text) at.1.0 ≡ Some at.0) its at.1.1,
      at.2,
    )

module _ (u : Universe) (a : Atom) where
  -- a variant of a name
  pub has-by : (n : ℕ) → some_below (variants u n) (λ b. satisfies u a (variant n b)) ≡ true
      → n < names u → has_variant u a ≡ true
  has-by n some below =
      some_below-at (names u) (λ m. some_below (variants u m) (λ b. satisfies u a (variant m b)))
      n below some

  -- no name that may have one
  none-has : (items : List (Item ℕ)) → HasAll u a.name items → NoneAmong u a items
      → has_variant u a ≡ false
  none-has items all none = elim (cases_Bool (has_variant u a)) [
    | inl some ↦ absurd (never some)
    | inr nothing ↦ nothing
  ]
    where
      never : has_variant u a ≡ true → ⊥
      never some =
          let n = some_below-found (names u)
          (λ n. some_below (variants u n) (λ b. satisfies u a (variant n b))) some in
          let b = some_below-found (variants u n.0) (λ b. satisfies u a (variant n.0 b)) n.2 in
          let at = all a refl n.0 b.0 b.1 b.2 in
          true≢false (sym n.2 ∙ subst (NoneOf u a) at.3
          (none at.0 at.1 at.2 (subst (λ k. k < names u) (sym at.3) n.1)))

  -- what is told of the names that may have one
  pub has-told : (items : List (Item ℕ)) (told : Bool) → HasAll u a.name items
      → (told ≡ true → has_variant u a ≡ true) → (told ≡ false → NoneAmong u a items)
      → told ≡ has_variant u a
  has-told items true all found none = sym (found refl)
  has-told items false all found none = sym (none-has items all (none refl))

module _ (u : Universe) (e : Entry) where
  -- an alternative
  pub met-at : (j : ℕ) (a : Atom) → slice_get e j ≡ Some a → has_variant u a ≡ true
      → is_met u e ≡ true
  met-at j a at some =
      let n = some_below-found (names u)
      (λ n. some_below (variants u n) (λ b. satisfies u a (variant n b))) some in
      let b = some_below-found (variants u n.0) (λ b. satisfies u a (variant n.0 b)) n.2 in
      some_below-at (names u)
      (λ n. some_below (variants u n) (λ b. satisfies_entry u e (variant n b))) n.0 n.1
      (some_below-at (variants u n.0) (λ b. satisfies_entry u e (variant n.0 b)) b.0 b.1
      (any-at (λ a. satisfies u a (variant n.0 b.0)) e j a at b.2))

  -- no alternative
  pub none-met : ((j : ℕ) (a : Atom) → slice_get e j ≡ Some a → has_variant u a ≡ false)
      → false ≡ is_met u e
  none-met none = elim (cases_Bool (is_met u e)) [
    | inl some ↦ absurd (never some)
    | inr nothing ↦ sym nothing
  ]
    where
      never : is_met u e ≡ true → ⊥
      never some =
          let n = some_below-found (names u)
          (λ n. some_below (variants u n) (λ b. satisfies_entry u e (variant n b))) some in
          let b = some_below-found (variants u n.0) (λ b. satisfies_entry u e (variant n.0 b)) n.2 in
          let a = any-found (λ a. satisfies u a (variant n.0 b.0)) e b.2 in
          true≢false (sym (has-by u a.1 n.0
          (some_below-at (variants u n.0) (λ b. satisfies u a.1 (variant n.0 b)) b.0 b.1 a.3) n.1)
          ∙ none a.0 a.1 a.2)
