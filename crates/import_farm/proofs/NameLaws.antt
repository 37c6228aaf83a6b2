-- Lists that are the same at each place.
use Rattle.std.proofs.Common.{◌≡◌, ℕ, ◌<◌, List, [], ◌∷◌, subst, length, get_or, map, sym, ap, ◌∙◌, arith}
use Rattle.std.specs.Global.{Vec}
use Rattle.deb_text.specs.Lists.{lists}
use Rattle.std.proofs.lemmas.List.{ext_get_or, get_or-map, length-map}

-- names that are those of vectors, one by one
pub same-names : {X : Type 0} (name : X → List ℕ) (xs : List X) (d : X) (names : List (List ℕ))
    → length xs ≡ length names
    → ((k : ℕ) → k < length names → name (get_or xs k d) ≡ get_or names k [])
    → map name xs ≡ names
same-names name xs d names long same =
    ext_get_or [] (map name xs) names (length-map xs name ∙ long)
    (λ k below.
    let lt : k < length xs = omega (arith, length-map xs name) in
    get_or-map name xs k d [] lt ∙ same k (omega arith))

-- the name at a place
pub name-at : (names : List (Vec ℕ)) (k : ℕ) (name : Vec ℕ) → k < length names
    → name ≡ get_or names k name → get_or (lists names) k [] ≡ name.items
name-at names k name below is =
    get_or-map (λ (v : Vec ℕ). v.items) names k name [] below
    ∙ ap (λ (v : Vec ℕ). v.items) (sym is)

-- the name of what alone is there
pub one-name : {X : Type 0} (name : X → List ℕ) (xs : List X) (d : X) (text : List ℕ)
    → length xs ≡ 1 → name (get_or xs 0 d) ≡ text → map name xs ≡ text ∷ []
one-name name xs d text long is =
    same-names name xs d (text ∷ []) long
    (λ k below.
    let none : k ≡ 0 = omega (arith, below) in
    subst (λ (j : ℕ). name (get_or xs j d) ≡ get_or (text ∷ []) j []) (sym none) is)
