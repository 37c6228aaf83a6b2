-- Tests of the values that a list of references points to.
use Rattle.std.proofs.Common.{◌≡◌, Bool, List, [], ◌∷◌, map, refl}
use Rattle.std.specs.List.{list_all, list_any}

pub any_map : {A B : Type 0} (xs : List A) (f : A → B) (p : B → Bool)
    → list_any p (map f xs) ≡ list_any (λ x. p (f x)) xs
any_map [] f p = refl
any_map (x ∷ xs) f p = rw (any_map xs f p) refl

pub all_map : {A B : Type 0} (xs : List A) (f : A → B) (p : B → Bool)
    → list_all p (map f xs) ≡ list_all (λ x. p (f x)) xs
all_map [] f p = refl
all_map (x ∷ xs) f p = rw (all_map xs f p) refl
