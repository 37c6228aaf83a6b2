-- Names of packages, recipes and base chroots: what is found under a number is the name that was
-- looked for.
use Rattle.std.proofs.Common.{◌≡◌, ℕ, true, not, List, [], ◌∷◌, get_or, map, refl, sym, ◌∙◌, inl, inr, Option, Some, None, Result, Ok, Err, IfOk, true≢false}
use Rattle.std.proofs.lemmas.Bool.{cases_Bool, and_parts, and_from}
use Rattle.std.proofs.lemmas.List.Quantifiers.{position-Some}
use Rattle.std.specs.List.{list_all}
use Rattle.std.specs.Str.{bytes_eq}
use Rattle.deb_text.proofs.CarriedLaws.{if-has, then-has}
use Rattle.deb_text.proofs.ListLaws.{bytes-same}
use Rattle.deb_text.proofs.PlaceLaws.{place_in-position}
use Rattle.deb_text.proofs.TestLaws.{all-weaker}
use Rattle.deb_text.specs.Common.{is_blank, is_solid, is_word_byte, is_nil, place_in, traverse, is_run, is_word}
use Rattle.farm_model.specs.Common.{base, recipe, no_base, no_recipe, Base, Recipe, Universe}
use Rattle.plan_reader.specs.Drafts.{or_unknown, known_name, base_names, known_base, recipe_names, known_recipe, distinct_set, set_of}
use Rattle.plan_reader.specs.Listing.{name_of_number}
use Rattle.plan_model.specs.Sound.{has_double}
use Rattle.std.proofs.Math.ListN.{get_or-map}

-- ---- words have no blanks

word-solid : (b : ℕ) → is_word_byte b ≡ true → is_solid b ≡ true
word-solid b is =
    elim (cases_Bool (is_blank b)) [
      | inl blank ↦ absurd (true≢false (sym (rw blank at is)))
      | inr solid ↦ rw solid refl
    ]

pub word-run : (word : List ℕ) → is_word word ≡ true → is_run word ≡ true
word-run word is =
    let both = and_parts (not (is_nil word)) (list_all is_word_byte word) is in
    and_from (not (is_nil word)) (list_all is_solid word) both.0
    (all-weaker is_word_byte is_solid word-solid word both.1)

pub words-run : (ws : List (List ℕ)) → list_all is_word ws ≡ true → list_all is_run ws ≡ true
words-run ws are = all-weaker is_word is_run word-run ws are

-- ---- names

-- what is answered, by its own equation
pub ok-itself : {A F : Type 0} (r : Result A F) → IfOk r (λ x. r ≡ Ok x)
ok-itself (Ok x) = refl
ok-itself (Err e) = tt

ok-weaker : {A F : Type 0} (P Q : A → Type 0) → ((x : A) → P x → Q x) → (r : Result A F)
    → IfOk r P → IfOk r Q
ok-weaker P Q weaker (Ok x) has = weaker x has
ok-weaker P Q weaker (Err e) has = tt

pub both-have : {A F : Type 0} (P Q : A → Type 0) (r : Result A F) → IfOk r P → IfOk r Q
    → IfOk r (λ x. P x × Q x)
both-have P Q (Ok x) first second = (first, second)
both-have P Q (Err e) first second = tt

found : (ks : List (List ℕ)) (word : List ℕ)
    → IfOk (or_unknown (place_in bytes_eq ks word)) (λ i. get_or ks i [] ≡ word)
found ks word = go (place_in bytes_eq ks word) refl where
  go : (o : Option ℕ) → place_in bytes_eq ks word ≡ o
      → IfOk (or_unknown o) (λ i. get_or ks i [] ≡ word)
  go None is = tt
  go (Some i) is =
      sym (bytes-same word (get_or ks i []) (position-Some (bytes_eq word) ks i []
      (sym (place_in-position bytes_eq ks word) ∙ is)).1)

module _ (u : Universe) where
  name-found : (word : List ℕ) → IfOk (known_name u word) (λ n. name_of_number u n ≡ word)
  unfolding known_name
  name-found word = found u.names word

  pub name-known : (word : List ℕ)
      → IfOk (known_name u word) (λ n. (name_of_number u n ≡ word) × (known_name u word ≡ Ok n))
  name-known word =
      both-have (λ n. name_of_number u n ≡ word) (λ n. known_name u word ≡ Ok n) (known_name u word)
      (name-found word) (ok-itself (known_name u word))

  base-found : (word : List ℕ) → IfOk (known_base u word) (λ b. (base u b).name ≡ word)
  unfolding known_base base
  base-found word =
      ok-weaker (λ b. get_or (base_names u) b [] ≡ word) (λ b. (base u b).name ≡ word)
      (λ b is. sym (get_or-map (λ (b : Base). b.name) u.bases b no_base) ∙ is)
      (or_unknown (place_in bytes_eq (base_names u) word)) (found (base_names u) word)

  pub base-known : (word : List ℕ)
      → IfOk (known_base u word) (λ b. ((base u b).name ≡ word) × (known_base u word ≡ Ok b))
  base-known word =
      both-have (λ b. (base u b).name ≡ word) (λ b. known_base u word ≡ Ok b) (known_base u word)
      (base-found word) (ok-itself (known_base u word))

  recipe-found : (word : List ℕ) → IfOk (known_recipe u word) (λ r. (recipe u r).name ≡ word)
  unfolding known_recipe recipe
  recipe-found word =
      ok-weaker (λ r. get_or (recipe_names u) r [] ≡ word) (λ r. (recipe u r).name ≡ word)
      (λ r is. sym (get_or-map (λ (r : Recipe). r.name) u.recipes r no_recipe) ∙ is)
      (or_unknown (place_in bytes_eq (recipe_names u) word)) (found (recipe_names u) word)

  pub recipe-known : (word : List ℕ)
      → IfOk (known_recipe u word) (λ r. ((recipe u r).name ≡ word) × (known_recipe u word ≡ Ok r))
  recipe-known word =
      both-have (λ r. (recipe u r).name ≡ word) (λ r. known_recipe u word ≡ Ok r)
      (known_recipe u word) (recipe-found word) (ok-itself (known_recipe u word))

  -- ---- sets

  all-named : (ws : List (List ℕ))
      → IfOk (traverse (known_name u) ws) (λ members. map (name_of_number u) members ≡ ws)
  unfolding traverse
  all-named [] = refl
  all-named (w ∷ ws) =
      then-has (λ n. name_of_number u n ≡ w) (λ members. map (name_of_number u) members ≡ w ∷ ws)
      (known_name u w) _ (name-found w)
      (λ n named. then-has (λ members. map (name_of_number u) members ≡ ws)
      (λ members. map (name_of_number u) members ≡ w ∷ ws) (traverse (known_name u) ws) _
      (all-named ws)
      (λ members are. rw (named, are) refl))

  set-named : (ws : List (List ℕ)) → IfOk (set_of u ws)
      (λ members. map (name_of_number u) members ≡ ws)
  unfolding set_of
  set-named ws =
      then-has (λ members. map (name_of_number u) members ≡ ws)
      (λ members. map (name_of_number u) members ≡ ws)
      (traverse (known_name u) ws) distinct_set (all-named ws)
      (λ members are. if-has (λ members. map (name_of_number u) members ≡ ws) (has_double members) _
      _
      (λ _. tt) (λ _. are))

  pub set-known : (ws : List (List ℕ))
      → IfOk (set_of u ws) (λ members. (map (name_of_number u) members ≡ ws)
      × (set_of u ws ≡ Ok members))
  set-known ws =
      both-have (λ members. map (name_of_number u) members ≡ ws)
      (λ members. set_of u ws ≡ Ok members)
      (set_of u ws) (set-named ws) (ok-itself (set_of u ws))
