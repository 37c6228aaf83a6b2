-- Items by key, items in order, and the place of a key.
use Rattle.std.specs.Prelude.{◌≡◌, ℕ, Bool, false, List, [], ◌∷◌, ◌++◌, fold, if◌then◌else◌, Option, Some, None}
use Rattle.std.specs.List.{list_any, position_or_len}

module _ {K : Type 0} (eq : K → K → Bool) where
  -- a key goes last, unless it stands there
  abbrev pub with_key : List K → K → List K
  with_key ks k = if list_any (eq k) ks then ks else ks ++ k ∷ []

  -- the different keys, in the order of their first appearance
  abbrev pub distinct : List K → List K
  distinct ks = fold with_key [] ks

  -- no key stands twice
  abbrev pub AllDistinct : List K → Type 0
  AllDistinct [] = Unit {0}
  AllDistinct (k ∷ ks) = (list_any (eq k) ks ≡ false) × AllDistinct ks

  -- the place of a key, if it is there
  abbrev pub place_in : List K → K → Option ℕ
  place_in ks k = if list_any (eq k) ks then Some (position_or_len (eq k) ks) else None

module _ {V : Type 0} (below : V → V → Bool) where
  -- x in its place among vs
  abbrev pub in_order : V → List V → List V
  in_order x [] = x ∷ []
  in_order x (v ∷ vs) = if below x v then x ∷ v ∷ vs else v ∷ in_order x vs

  -- from the lowest to the highest
  abbrev pub sorted : List V → List V
  sorted vs = fold (λ done v. in_order v done) [] vs
