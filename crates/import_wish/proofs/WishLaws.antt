-- Recipes and base chroots, one behind the others.
use Rattle.std.proofs.Common.{◌≡◌, ℕ, List, [], ◌∷◌, ◌++◌, map, ap, ◌∙◌}
use Rattle.std.specs.Global.{Vec}
use Rattle.std.proofs.lemmas.List.{map_push}
use Rattle.deb_text.specs.Lists.{lists}
use Rattle.deb_text.proofs.ListLaws.{lists-push}

pub names-more : (names new : List (Vec ℕ)) (name given : Vec ℕ) → new ≡ names ++ name ∷ []
    → name.items ≡ given.items → lists new ≡ lists names ++ given.items ∷ []
names-more names new name given pushed same =
    ap lists pushed ∙ lists-push names name ∙ ap (λ n. lists names ++ n ∷ []) same

pub items-more : {X Y : Type 0} (view : X → Y) (items new : List X) (x : X) → new ≡ items ++ x ∷ []
    → map view new ≡ map view items ++ view x ∷ []
items-more view items new x pushed = ap (map view) pushed ∙ map_push view items x
