-- Tests of names that vectors hold.
use Rattle.std.proofs.Common.{◌≡◌, ℕ, Bool, ◌||◌, List, [], ◌∷◌, refl, ap}
use Rattle.std.specs.Global.{Vec}
use Rattle.std.specs.List.{list_any}
use Rattle.deb_text.specs.Lists.{lists}

pub some-lists : (test : List ℕ → Bool) (names : List (Vec ℕ))
    → list_any (λ name. test name.items) names ≡ list_any test (lists names)
some-lists test [] = refl
some-lists test (name ∷ names) =
    ap (λ (b : Bool). test name.items || b) (some-lists test names)
