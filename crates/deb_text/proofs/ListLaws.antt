-- The lists that vectors hold, and texts as keys.
use Rattle.std.proofs.Common.{◌≡◌, ℕ, ◌<◌, true, List, [], ◌∷◌, ◌++◌, length, refl, sym, ap, ◌∙◌, position, get_or, set}
use Rattle.std.specs.Global.{Vec}
use Rattle.std.specs.List.{list_any, position_or_len}
use Rattle.std.specs.Str.{bytes_eq}
use Rattle.std.proofs.lemmas.List.{map_push, map-set, get_or-map}
use Rattle.std.proofs.lemmas.Slice.Eq.{bytes_eq-Decides}
use Rattle.deb_text.specs.Groups.{place_in}
use Rattle.deb_text.specs.Lists.{lists}
use Rattle.deb_text.proofs.PlaceLaws.{position-any}

-- equal bytes are equal texts
pub bytes-same : (x y : List ℕ) → bytes_eq x y ≡ true → x ≡ y
bytes-same x y e = (bytes_eq-Decides x y).0 e

pub bytes-self : (x : List ℕ) → bytes_eq x x ≡ true
bytes-self x = (bytes_eq-Decides x x).1 refl

pub any-lists : (vs : List (Vec ℕ)) (key : List ℕ)
    → list_any (bytes_eq key) (lists vs) ≡ list_any (λ v. bytes_eq key v.items) vs
any-lists [] key = refl
any-lists (v ∷ vs) key = rw (any-lists vs key) refl

position-lists : (vs : List (Vec ℕ)) (key : List ℕ)
    → position_or_len (bytes_eq key) (lists vs) ≡ position_or_len (λ v. bytes_eq key v.items) vs
position-lists [] key = refl
position-lists (v ∷ vs) key = rw (position-lists vs key) refl

pub place-lists : (vs : List (Vec ℕ)) (key : List ℕ)
    → place_in bytes_eq (lists vs) key ≡ position (λ v. bytes_eq key v.items) vs
place-lists vs key =
    rw (any-lists vs key, position-lists vs key)
    (sym (position-any (λ (v : Vec ℕ). bytes_eq key v.items) vs))

-- a write of one of these lists
pub lists-set : {X : Type 0} (vs : List (Vec X)) (i : ℕ) (v : Vec X)
    (f : List X → List X) (d : Vec X)
    → i < length vs → v.items ≡ f (get_or vs i d).items
    → lists (set vs i v) ≡ set (lists vs) i (f (get_or (lists vs) i []))
lists-set vs i v f d lt is =
    map-set (λ v. v.items) vs i v
    ∙ ap (set (lists vs) i) (is ∙ ap f (sym (get_or-map (λ v. v.items) vs i d [] lt)))

pub lists-push : {X : Type 0} (vs : List (Vec X)) (v : Vec X)
    → lists (vs ++ v ∷ []) ≡ lists vs ++ v.items ∷ []
lists-push vs v = map_push (λ v. v.items) vs v
