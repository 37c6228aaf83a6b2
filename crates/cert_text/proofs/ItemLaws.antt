-- Items by their texts: what is put beside a text is what the text says.
use Rattle.std.proofs.Common.{◌≡◌, ℕ, Bool, true, false, List, [], ◌∷◌, ◌++◌, refl, sym, ap, subst, ◌∙◌, Option, Some, None}
use Rattle.std.specs.Global.{Vec}
use Rattle.std.specs.Map.{lookup}
use Rattle.std.specs.Str.{bytes_eq}
use Rattle.std.proofs.lemmas.Option.{none-some, same_Some}
use Rattle.deb_text.proofs.ListLaws.{bytes-same}
use Rattle.deb_text.specs.Steps.{or_else}
use Rattle.farm_model.specs.Universe.{Universe}
use Rattle.farm_model.specs.declared.types.Variant.{Variant}
use Rattle.plan_reader.proofs.RecipeLaws.{where_so, lookup-push}
use Rattle.cert_text.specs.Items.{IsSaid, AreSaid}

module _ (u : Universe) (es : List (Vec ℕ × Variant)) (are : AreSaid u es) (key : Vec ℕ)
    (v : Variant) (is : IsSaid u key.items v) where
  pub said-put : (fs : List (Vec ℕ × Variant)) → fs ≡ es ++ (key, v) ∷ [] → AreSaid u fs
  said-put fs put text w found =
      by (lookup (λ k. bytes_eq text k.items) es) refl (bytes_eq text key.items) refl
      (sym (lookup-push (λ k. bytes_eq text k.items) es (key, v))
      ∙ ap (lookup (λ k. bytes_eq text k.items)) (sym put) ∙ found) where
        by : (o : Option Variant) → lookup (λ k. bytes_eq text k.items) es ≡ o
            → (b : Bool) → bytes_eq text key.items ≡ b
            → or_else (lookup (λ k. bytes_eq text k.items) es)
            (where_so (bytes_eq text key.items) v) ≡ Some w
            → IsSaid u text w
        by (Some x) here b e at =
            are text w (here ∙ (rw here at at))
        by None none true e at =
            let same : v ≡ w = same_Some _ _ (rw (none, e) at at) in
            subst (IsSaid u text) same
            (subst (λ t. IsSaid u t v) (sym (bytes-same text key.items e)) is)
        by None none false e at = absurd (none-some w (rw (none, e) at at))
