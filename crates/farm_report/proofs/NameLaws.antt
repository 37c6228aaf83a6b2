-- Names, each behind a space.
use Rattle.std.proofs.Common.{◌≡◌, ℕ, List, [], ◌∷◌, ◌++◌, refl, ap}
use Rattle.std.specs.Global.{Vec}
use Rattle.std.specs.List.{flat_map}
use Rattle.deb_text.specs.Common.{lists, spaced}

-- a name behind a space
abbrev pub behind_space : Vec ℕ → List ℕ
behind_space name = 32 ∷ name.items

pub spaced_is : (names : List (Vec ℕ)) → flat_map behind_space names ≡ spaced (lists names)
spaced_is [] = refl
spaced_is (name ∷ names) = ap (λ t. behind_space name ++ t) (spaced_is names)
