-- The place of a key in a list of keys.
use Rattle.std.proofs.Common.{◌≡◌, ℕ, ◌<◌, true, false, List, [], length, get_or, refl, sym, ◌∙◌, Some, None, arith}
use Rattle.std.specs.Str.{bytes_eq}
use Rattle.std.proofs.lemmas.Bool.{lt-ltb, le-ltb}
use Rattle.std.proofs.lemmas.List.Quantifiers.{position-Some}
use Rattle.std.proofs.lemmas.List.Sums.{position_or_len_is}
use Rattle.std.proofs.Math.ListN.{get_or-map}
use Rattle.deb_text.proofs.PlaceLaws.{place_in-position}
use Rattle.deb_text.specs.Groups.{place_in}
use Rattle.farm_model.specs.Common.{no_base, base, no_recipe, recipe, Base, Recipe, Universe}
use Rattle.plan_reader.specs.Drafts.{base_names, recipe_names}

module _ (ks : List (List ℕ)) (k : List ℕ) where
  -- a place is one in the list
  pub place-within : (i : ℕ) → place_in bytes_eq ks k ≡ Some i → i < length ks
  place-within i is =
      (position-Some (bytes_eq k) ks i [] (sym (place_in-position bytes_eq ks k) ∙ is)).0

  -- the first that is equal
  pub place-first : (i : ℕ) → i < length ks
      → ((j : ℕ) → j < i → bytes_eq k (get_or ks j []) ≡ false)
      → bytes_eq k (get_or ks i []) ≡ true → place_in bytes_eq ks k ≡ Some i
  place-first i lt before is =
      place_in-position bytes_eq ks k
      ∙ rw (
        position_or_len_is (bytes_eq k) ks i [] (omega arith) before (λ _. is),
        lt-ltb i (length ks) lt,
      ) refl

  -- none is equal
  pub place-none : ((j : ℕ) → j < length ks → bytes_eq k (get_or ks j []) ≡ false)
      → place_in bytes_eq ks k ≡ None
  place-none before =
      place_in-position bytes_eq ks k
      ∙ rw (
        position_or_len_is (bytes_eq k) ks (length ks) [] (omega arith) before
            (λ lt. absurd (omega (arith, lt))),
        le-ltb (length ks) (length ks) (omega arith),
      ) refl

-- the name of the base chroot of a number
pub base-name : (u : Universe) (i : ℕ) → get_or (base_names u) i [] ≡ (base u i).name
unfolding base
base-name u i = get_or-map (λ (b : Base). b.name) u.bases i no_base

-- the name of the recipe of a number
pub recipe-name : (u : Universe) (i : ℕ) → get_or (recipe_names u) i [] ≡ (recipe u i).name
unfolding recipe
recipe-name u i = get_or-map (λ (r : Recipe). r.name) u.recipes i no_recipe
