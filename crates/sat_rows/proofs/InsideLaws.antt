-- Names of which all variants that words have satisfy an alternative.
use Rattle.std.proofs.Common.{◌≡◌, ◌↔◌, ◌⊎◌, ℕ, Bool, true, false, ◌&&◌, ◌==◌, nat_lt, List, None, Some, refl, sym, ap, ◌∙◌, subst, inl, inr}
use Rattle.std.specs.Prelude.{slice_index}
use Rattle.std.specs.Option.{is_none}
use Rattle.std.specs.Str.{bytes_eq}
use Rattle.std.proofs.lemmas.Bool.{true≢false, or_cases, and_parts, and_from, eqb-true}
use Rattle.clause_kernel.specs.Rows.{word_has}
use Rattle.clause_kernel.specs.Kernels.{meets}
use Rattle.clause_kernel.proofs.Words.{word_has_zero, meets-bits}
use Rattle.deb_text.specs.Groups.{place_in}
use Rattle.deb_text.proofs.ListLaws.{bytes-same}
use Rattle.deb_relation.specs.Common.{Atom, is_its_own, provides_it}
use Rattle.farm_model.specs.Common.{Universe, variant, variants, facts, satisfies, is_wanted}
use Rattle.farm_model.specs.declared.types.Variant.{Variant}
use Rattle.farm_universe.specs.Kept.{IsKept}
use Rattle.item_index.specs.declared.item.Item.{Item}
use Rattle.item_index.specs.Items.{listed, IsIn}
use Rattle.sat_rows.specs.Found.{some_atom}
use Rattle.sat_rows.specs.Index.{IsProviding}
use Rattle.sat_rows.specs.Inside.{IsInside, HasInside}
use Rattle.sat_rows.specs.Rows.{variant_passes, IsWordFor}
use Rattle.sat_rows.proofs.FoundLaws.{listed_owner, satisfies-bare, satisfies-qualified}
use Rattle.sat_rows.proofs.NameLaws.{own-found, own-none}

module _ (u : Universe) (a : Atom) (words : List ℕ) where
  -- the name is one that they have
  pub inside_has : (n : ℕ) → IsInside u a words n → HasInside u a words
  inside_has n is = (n, is.0, is.1)

  -- told by the word of the name
  pub inside_word : (n word : ℕ) → IsWordFor u (satisfies u a) n word
      → (meets (slice_index words n) word ≡ true) ↔ IsInside u a words n
  inside_word n word is =
      let bits = meets-bits (slice_index words n) word in (
        (λ met. let parts = bits.0 met in
            (parts.0, λ b has. sym (is b) ∙ parts.1 b has)),
        (λ inside. bits.1 (inside.0, λ b has. is b ∙ inside.1 b has)),
      )

  -- a name without variants there is none
  pub inside_none : (n : ℕ) → slice_index words n ≡ 0 → ¬ IsInside u a words n
  inside_none n zero inside =
      true≢false (sym inside.0.1 ∙ (ap (λ w. word_has w inside.0.0) zero
      ∙ word_has_zero inside.0.0))

  -- an item that provides an alternative has its name
  named : (p : Atom) → provides_it a p ≡ true → p.name ≡ a.name
  named p is =
      let both = and_parts (is_none p.qualifier && bytes_eq p.name a.name) _ is in
      bytes-same p.name a.name (and_parts (is_none p.qualifier) _ both.0).1

  -- who satisfies the alternative has its name, or an item that provides it
  by_name_or_item : (n b : ℕ) → nat_lt b (variants u n) ≡ true
      → satisfies u a (variant n b) ≡ true
      → (variant_passes u (λ v. is_its_own (facts u v) a) n b ≡ true)
      ⊎ (variant_passes u (some_atom u (λ binary. binary.provides) (provides_it a)) n b ≡ true)
  unfolding facts
  by_name_or_item n b known sat = by (is_none a.qualifier) refl where
    by : (t : Bool) → is_none a.qualifier ≡ t
        → (variant_passes u (λ v. is_its_own (facts u v) a) n b ≡ true)
        ⊎ (variant_passes u (some_atom u (λ binary. binary.provides) (provides_it a)) n b ≡ true)
    by false qualified =
        absurd (true≢false (sym sat ∙ satisfies-qualified u (variant n b) a qualified))
    by true bare =
        elim (or_cases (is_its_own (facts u (variant n b)) a) _
        (sym (satisfies-bare u (variant n b) a bare) ∙ sat)) [
          | inl its_own ↦ inl (and_from _ _ known its_own)
          | inr provided ↦ inr (and_from _ _ known provided)
        ]

  -- neither the alternative's own name nor that of an item
  pub inside_never : (lists : List (List (Item Variant))) → IsProviding u lists
      → ((n b : ℕ) → variant_passes u (λ v. is_its_own (facts u v) a) n b ≡ true
      → ¬ IsInside u a words n)
      → ((at : Item Variant) → IsIn (listed lists a.name) at → ¬ IsInside u a words at.owner.name)
      → ¬ HasInside u a words
  inside_never lists naming own others has =
      let n = has.0 in
      let b = has.1.0 in
      let pass = and_parts (nat_lt b (variants u n)) _ (has.2 b has.1.1) in
      elim (by_name_or_item n b pass.0 pass.1) [
        | inl its_own ↦ own n b its_own (has.1, has.2)
        | inr provided ↦
            let found = listed_owner u (λ binary. binary.provides) (provides_it a) lists a.name
            naming named n b provided in
            others found.0 found.1
            (subst (IsInside u a words) (ap (λ (v : Variant). v.name) (sym found.2))
            (has.1, has.2))
      ]

  -- the name of the alternative, if it has a number
  module _ (kept : IsKept u) where
    pub own_none : place_in bytes_eq u.names a.name ≡ None → (n b : ℕ)
        → variant_passes u (λ v. is_its_own (facts u v) a) n b ≡ true → ¬ IsInside u a words n
    own_none none n b is inside = true≢false (sym is ∙ own-none u kept a none n b)

    pub own_at : (k : ℕ) → place_in bytes_eq u.names a.name ≡ Some k → ¬ IsInside u a words k
        → (n b : ℕ) → variant_passes u (λ v. is_its_own (facts u v) a) n b ≡ true
        → ¬ IsInside u a words n
    own_at k at out n b is inside =
        let both = and_parts (n == k) _
        (own-found u kept a k (variant_passes u (is_wanted u a.relation) k) (λ b. refl) at n b
        ∙ is) in
        out (subst (IsInside u a words) (eqb-true n k both.0) inside)
