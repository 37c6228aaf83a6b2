-- Tests of lists.
use Rattle.std.proofs.Common.{◌≡◌, Bool, true, false, ◌&&◌, ◌||◌, List, [], ◌∷◌, ◌++◌, map, filter, refl, sym, ap, ◌∙◌, subst, inl, inr}
use Rattle.std.proofs.Math.Bool.{or-false}
use Rattle.std.proofs.lemmas.Bool.{cases_Bool, and_parts, and_from}
use Rattle.std.proofs.lemmas.List.Folds.{list_any-append, list_any_at}
use Rattle.std.proofs.lemmas.List.Elements.{All-contains}
use Rattle.std.proofs.lemmas.List.Sums.{AllPass-from_list_all}
use Rattle.std.specs.List.{list_any, list_all, flat_map, Contains}
use Rattle.farm_model.proofs.TestLaws.{or-four}

pub both-ways : (a b : Bool) → (a ≡ true → b ≡ true) → (b ≡ true → a ≡ true) → a ≡ b
both-ways true b there back = sym (there refl)
both-ways false true there back = back refl
both-ways false false there back = refl

pub spread : (a b c : Bool) → ((a && c) || (b && c)) ≡ ((a || b) && c)
spread true b true = refl
spread true true false = refl
spread true false false = refl
spread false b c = refl

module _ {X : Type 0} (f g : X → Bool) where
  pub any-same : ((x : X) → f x ≡ g x) → (xs : List X) → list_any f xs ≡ list_any g xs
  any-same same [] = refl
  any-same same (x ∷ xs) = rw (same x, any-same same xs) refl

  pub any-or : (xs : List X) → list_any (λ x. f x || g x) xs ≡ (list_any f xs || list_any g xs)
  any-or [] = refl
  any-or (x ∷ xs) =
      ap (λ b. (f x || g x) || b) (any-or xs)
      ∙ or-four (f x) (g x) (list_any f xs) (list_any g xs)

  pub any-filter : (xs : List X) → list_any f (filter g xs) ≡ list_any (λ x. g x && f x) xs
  any-filter [] = refl
  any-filter (x ∷ xs) =
      elim (cases_Bool (g x)) [
        | inl is ↦ rw is (ap (λ b. f x || b) (any-filter xs))
        | inr is ↦ rw is (any-filter xs)
      ]

module _ {X : Type 0} (p f g : X → Bool) where
  -- alike on what passes a test that all pass
  pub any-alike : ((x : X) → p x ≡ true → f x ≡ g x) → (xs : List X) → list_all p xs ≡ true
      → list_any f xs ≡ list_any g xs
  any-alike same [] all = refl
  any-alike same (x ∷ xs) all =
      let both = and_parts (p x) (list_all p xs) all in
      rw (same x both.0, any-alike same xs both.1) refl

module _ {X : Type 0} where
  pub any-none : (xs : List X) → list_any (λ x. false) xs ≡ false
  any-none [] = refl
  any-none (x ∷ xs) = any-none xs

  pub any-and : (f : X → Bool) (b : Bool) (xs : List X)
      → list_any (λ x. f x && b) xs ≡ (list_any f xs && b)
  any-and f b [] = refl
  any-and f b (x ∷ xs) =
      ap (λ r. (f x && b) || r) (any-and f b xs) ∙ spread (f x) (list_any f xs) b

  pub any-contains : (f : X → Bool) (xs : List X) (x : X) → Contains xs x → f x ≡ true
      → list_any f xs ≡ true
  any-contains f xs x here is =
      list_any_at f xs here.0 x here.1 (subst (λ y. f y ≡ true) (sym here.2) is)

  pub each-passes : (p : X → Bool) (xs : List X) (x : X) → list_all p xs ≡ true → Contains xs x
      → p x ≡ true
  each-passes p xs x all here =
      All-contains (λ y. p y ≡ true) xs x (AllPass-from_list_all p xs all) here

  pub any-singles : (f : X → Bool) (xs : List X)
      → list_any (λ ys. list_any f ys) (map (λ x. x ∷ []) xs) ≡ list_any f xs
  any-singles f [] = refl
  any-singles f (x ∷ xs) = rw (or-false, any-singles f xs) refl

  pub all-join : (p : X → Bool) (xs ys : List X) → list_all p xs ≡ true → list_all p ys ≡ true
      → list_all p (xs ++ ys) ≡ true
  all-join p [] ys left right = right
  all-join p (x ∷ xs) ys left right =
      let both = and_parts (p x) (list_all p xs) left in
      and_from (p x) (list_all p (xs ++ ys)) both.0 (all-join p xs ys both.1 right)

module _ {X Y : Type 0} where
  pub any-flat : (p : Y → Bool) (f : X → List Y) (xs : List X)
      → list_any p (flat_map f xs) ≡ list_any (λ x. list_any p (f x)) xs
  any-flat p f [] = refl
  any-flat p f (x ∷ xs) =
      list_any-append p (f x) (flat_map f xs)
      ∙ ap (λ b. list_any p (f x) || b) (any-flat p f xs)

  pub any-map : (p : Y → Bool) (f : X → Y) (xs : List X)
      → list_any p (map f xs) ≡ list_any (λ x. p (f x)) xs
  any-map p f [] = refl
  any-map p f (x ∷ xs) = ap (λ b. p (f x) || b) (any-map p f xs)

  pub any-swap : (r : X → Y → Bool) (xs : List X) (ys : List Y)
      → list_any (λ x. list_any (λ y. r x y) ys) xs ≡ list_any (λ y. list_any (λ x. r x y) xs) ys
  any-swap r [] ys = sym (any-none ys)
  any-swap r (x ∷ xs) ys =
      ap (λ b. list_any (λ y. r x y) ys || b) (any-swap r xs ys)
      ∙ sym (any-or (λ y. r x y) (λ y. list_any (λ x. r x y) xs) ys)

  pub all-flat : (p : Y → Bool) (q : X → Bool) (f : X → List Y)
      → ((x : X) → q x ≡ true → list_all p (f x) ≡ true)
      → (xs : List X) → list_all q xs ≡ true → list_all p (flat_map f xs) ≡ true
  all-flat p q f each [] all = refl
  all-flat p q f each (x ∷ xs) all =
      let both = and_parts (q x) (list_all q xs) all in
      all-join p (f x) (flat_map f xs) (each x both.0) (all-flat p q f each xs both.1)
