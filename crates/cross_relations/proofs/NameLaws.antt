-- Names without a full stop.
use Rattle.std.proofs.Common.{◌≡◌, Bool, false, List, [], ◌∷◌, refl}
use Rattle.std.proofs.lemmas.Bool.{or_parts}
use Rattle.std.specs.List.{list_any}
use Rattle.deb_text.specs.Cuts.{after_last}

pub after_last-none : {X : Type 0} (p : X → Bool) (xs : List X) → list_any p xs ≡ false
    → after_last p xs ≡ []
after_last-none p [] none = refl
after_last-none p (x ∷ xs) none =
    let both = or_parts (p x) (list_any p xs) none in
    rw both.0 (after_last-none p xs both.1)
