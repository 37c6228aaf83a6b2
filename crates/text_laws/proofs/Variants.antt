-- The item of a variant names that variant.
use Rattle.std.proofs.Common.{◌≡◌, ℕ, zero, suc, ◌+◌, ◌-◌, subst, true≢false, ◌<◌, true, false, List, [], ◌∷◌, get_or, length, refl, sym, ap, ◌∙◌, Some, arith}
use Rattle.std.specs.declared.cmp.Ordering.TheVariants.{Less}
use Rattle.std.specs.Ordering.{is_eq, ordering_reverse}
use Rattle.std.specs.Str.{bytes_eq}
use Rattle.std.proofs.lemmas.Bool.{false_from_ne_true}
use Rattle.std.proofs.lemmas.Cmp.{tied_itself}
use Rattle.std.proofs.lemmas.List.Folds.{list_any_at}
use Rattle.deb_text.proofs.ListLaws.{bytes-same, bytes-self}
use Rattle.deb_text.specs.Groups.{AllDistinct, place_in}
use Rattle.deb_version.specs.Grammar.{text_cmp}
use Rattle.deb_version.specs.OrderLaws.{text_cmp_total}
use Rattle.farm_model.specs.Common.{names, variant, variants, package_of, Universe}
use Rattle.farm_model.specs.declared.types.Variant.{Variant}
use Rattle.farm_universe.specs.ListText.{pinned}
use Rattle.plan_reader.proofs.Places.{place-first}
use Rattle.plan_reader.specs.Listing.{name_of_number}
use Rattle.farm_universe.specs.Items.{find_variant, item_variant, variant_of}
use Rattle.cert_text.specs.Rows.{IsOfUniverse}
use Rattle.cert_text.proofs.Searches.{variant-first}
use Rattle.text_laws.specs.CertLaws.{IsSpelled}
use Rattle.text_laws.proofs.Lists.{entry_of}

-- ---- names

-- of different names, an earlier one is another
others : (ks : List (List ℕ)) → AllDistinct bytes_eq ks → (j n : ℕ) → j < n → n < length ks
    → bytes_eq (get_or ks n []) (get_or ks j []) ≡ false
others [] distinct j n before lt = absurd (omega (arith, lt))
others (k ∷ ks) distinct zero zero before lt = absurd (omega (arith, before))
others (k ∷ ks) distinct zero (suc n) before lt =
    false_from_ne_true (bytes_eq (get_or ks n []) k)
    (λ e. true≢false
    (sym (list_any_at (bytes_eq k) ks n [] (omega (arith, lt))
    (ap (bytes_eq k) (bytes-same (get_or ks n []) k e) ∙ bytes-self k)) ∙ distinct.0))
others (k ∷ ks) distinct (suc j) zero before lt = absurd (omega (arith, before))
others (k ∷ ks) distinct (suc j) (suc n) before lt =
    others ks distinct.1 j n (omega (arith, before)) (omega (arith, lt))

-- each is found at its place
pub place-again : (ks : List (List ℕ)) → AllDistinct bytes_eq ks → (n : ℕ) → n < length ks
    → place_in bytes_eq ks (get_or ks n []) ≡ Some n
place-again ks distinct n lt =
    place-first ks (get_or ks n []) n lt (λ j before. others ks distinct j n before lt)
    (bytes-self (get_or ks n []))

module _ (u : Universe) (spelled : IsSpelled u) where
  name-place : (n : ℕ) → n < names u → place_in bytes_eq u.names (name_of_number u n) ≡ Some n
  unfolding names
  name-place n lt =
      place-again u.names spelled.distinct n (omega (arith, lt, spelled.listed))

  -- ---- versions

  abbrev version : ℕ → ℕ → List ℕ
  version n b = (package_of u (variant n b)).version

  -- a lower bit is a lower version
  lower : (k n j b : ℕ) → j + suc k ≡ b → b < variants u n
      → text_cmp (version n j) (version n b) ≡ Less
  lower zero n j b e lt =
      let same : suc j ≡ b = omega (arith, e) in
      subst (λ m. text_cmp (version n j) (version n m) ≡ Less) same
      (spelled.rising n j (omega (arith, e, lt)))
  lower (suc k) n j b e lt =
      let same : suc (j + suc k) ≡ b = omega (arith, e) in
      text_cmp_total.trans (version n j) (version n (j + suc k)) (version n b)
      (lower k n j (j + suc k) refl (omega (arith, e, lt)))
      (subst (λ m. text_cmp (version n (j + suc k)) (version n m) ≡ Less) same
      (spelled.rising n (j + suc k) (omega (arith, e, lt))))

  not-equal : (a b : List ℕ) → text_cmp a b ≡ Less → is_eq (text_cmp b a) ≡ false
  not-equal a b less =
      ap is_eq (text_cmp_total.antisymm b a ∙ ap ordering_reverse less)

  itself : (a : List ℕ) → is_eq (text_cmp a a) ≡ true
  itself a = ap is_eq (tied_itself text_cmp_total a)

  version-place : (n b : ℕ) → b < variants u n
      → variant_of u (version n b) n ≡ Some (variant n b)
  version-place n b lt =
      variant-first u (version n b) n b lt
      (λ j before. not-equal (version n j) (version n b)
      (lower (b - suc j) n j b (omega (arith, before)) lt))
      (itself (version n b))

  pub item-variant : (v : Variant) → IsOfUniverse u v → item_variant u (entry_of u v) ≡ Some v
  unfolding item_variant find_variant pinned
  item-variant v is =
      rw (name-place v.name is.name, version-place v.name v.bit is.known)
      refl
