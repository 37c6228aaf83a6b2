-- Lists that come one behind another, and packages that need nothing.
use Rattle.std.proofs.Common.{◌≡◌, ℕ, List, [], ◌++◌, get_or, take, length, ◌<◌, ◌≤◌, ◌+◌, sym, ap, ◌∙◌, add-one}
use Rattle.std.specs.List.{flat_map}
use Rattle.std.specs.Prelude.{slice_index_or}
use Rattle.std.proofs.lemmas.List.{append-nil, append_assoc, get_or_past, take_more, flat_map_more}
use Rattle.farm_model.specs.Packages.{no_package, package_of, pre_depends, depends, variants}
use Rattle.farm_model.specs.declared.types.Variant.{Variant}
use Rattle.farm_model.specs.Universe as model
use Rattle.farm_lookup.specs.declared.needs.Asker.TheVariants.{Package}
use Rattle.farm_lookup.specs.declared.needs.Unmet.{Unmet}
use Rattle.farm_lookup.specs.Unmet.{joined_below, of_entry, of_package}

module _ {A : Type 0} where
  -- the lists of one number more
  pub joined-more : (f : ℕ → List A) (n : ℕ) (old mid new : List A) → mid ≡ old ++ joined_below n f
      → new ≡ mid ++ f n → new ≡ old ++ joined_below (n + 1) f
  joined-more f n old mid new so_far last =
      rw add-one
      (last ∙ ap (λ xs. xs ++ f n) so_far ∙ append_assoc old (joined_below n f) (f n))

  -- the lists of one item more
  pub items-more : {X : Type 0} (f : X → List A) (xs : List X) (i : ℕ) (d : X) (old mid new : List A)
      → i < length xs → mid ≡ old ++ flat_map f (take i xs) → new ≡ mid ++ f (get_or xs i d)
      → new ≡ old ++ flat_map f (take (i + 1) xs)
  items-more f xs i d old mid new below so_far last =
      last ∙ ap (λ ys. ys ++ f (get_or xs i d)) so_far
      ∙ flat_map_more f old (take i xs) (get_or xs i d)
      ∙ ap (λ ys. old ++ flat_map f ys) (sym (take_more xs i d below))

-- a variant that the universe does not have needs nothing
pub no_needs : (u : model.Universe) (v : Variant) (old : List Unmet) → variants u v.name ≤ v.bit
    → old ≡ old ++ of_package u v
unfolding variants package_of pre_depends depends
no_needs u v old past =
    let f = of_entry u (Package v) in
    sym (ap (λ (p : model.Package). old ++ (flat_map f p.pre_depends ++ flat_map f p.depends))
    (get_or_past (slice_index_or u.packages v.name []) v.bit no_package past) ∙ append-nil old)
