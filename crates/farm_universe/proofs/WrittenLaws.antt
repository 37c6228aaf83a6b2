-- A version that is written as a package of the name writes it.
use Rattle.std.proofs.Common.{◌≡◌, ℕ, Bool, true, false, true≢false, List, [], ◌∷◌, length, refl, sym, ap, subst, ◌∙◌, inl, inr, Option, Some, None, cond, nat_lt, position}
use Rattle.std.specs.List.{list_any, list_all, position_or_len}
use Rattle.std.specs.Option.{is_some}
use Rattle.std.specs.Ordering.{is_eq}
use Rattle.std.specs.Str.{bytes_eq}
use Rattle.std.proofs.lemmas.Bool.{cases_Bool, and_parts}
use Rattle.std.proofs.lemmas.Cmp.{tied_itself}
use Rattle.deb_text.proofs.ListLaws.{bytes-same}
use Rattle.deb_text.proofs.PlaceLaws.{position-any}
use Rattle.deb_version.specs.Grammar.{text_cmp}
use Rattle.deb_version.specs.OrderLaws.{text_cmp_total}
use Rattle.farm_model.specs.Universe.{Package}
use Rattle.farm_universe.specs.ListText.{has_version}
use Rattle.farm_universe.specs.PackagesText.{is_below}
use Rattle.farm_universe.specs.TableView.{Rises}
use Rattle.farm_universe.proofs.FitLaws.{not_same}

module _ (w : List ℕ) where
  abbrev writes : Package → Bool
  writes v = bytes_eq v.version w

  has-itself : (v : Package) → writes v ≡ true → has_version w v ≡ true
  has-itself v is =
      subst (λ t. is_eq (text_cmp t v.version) ≡ true) (bytes-same v.version w is)
      (rw (tied_itself text_cmp_total v.version) refl)

  -- a package that is below one with this version has another
  has-other : (v : Package) (vs : List Package) → list_all (is_below v) vs ≡ true
      → list_any writes vs ≡ true → has_version w v ≡ false
  has-other v [] below some = absurd cc
  has-other v (x ∷ vs) below some =
      let p = and_parts (is_below v x) (list_all (is_below v) vs) below in
      elim (cases_Bool (writes x)) [
        | inl is ↦ subst (λ t. is_eq (text_cmp t v.version) ≡ false) (bytes-same x.version w is)
            (not_same x v p.0)
        | inr is ↦ has-other v vs p.1 (rw is at some)
      ]

  first-written : (vs : List Package) → Rises vs → list_any writes vs ≡ true
      → position_or_len (has_version w) vs ≡ position_or_len writes vs
  first-written [] rises some = refl
  first-written (v ∷ vs) rises some =
      elim (cases_Bool (writes v)) [
        | inl is ↦ rw (is, has-itself v is) refl
        | inr is ↦ (
            let rest : list_any writes vs ≡ true = rw is at some in
            rw (is, has-other v vs rises.0 rest, first-written vs rises.1 rest) refl
            )
      ]

  -- the package that writes the version so is the one that has it
  pub at-written : (vs : List Package) (at : Option ℕ) → Rises vs → at ≡ position writes vs
      → is_some at ≡ true → at ≡ position (has_version w) vs
  at-written vs at rises is_at some =
      elim (cases_Bool (list_any writes vs)) [
        | inl is ↦ is_at
            ∙ sym (ap (λ n. cond (nat_lt n (length vs)) (Some n) None) (first-written vs rises is))
        | inr is ↦ (
            let none : position writes vs ≡ None = rw is at (position-any writes vs) in
            absurd (true≢false (sym some ∙ ap is_some (is_at ∙ none)))
            )
      ]
