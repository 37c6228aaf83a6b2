-- Words put into a set.
use Rattle.std.proofs.Common.{◌≡◌, ℕ, Bool, true, false, List, [], ◌∷◌, ◌++◌, refl, if◌then◌else◌, bytes_eq}
use Rattle.std.specs.Global.{Vec}
use Rattle.std.specs.List.{list_any}
use Rattle.deb_text.proofs.ListLaws.{any-lists, lists-push}
use Rattle.deb_text.specs.Common.{with_key, lists}

-- a new one is put behind the others, and one that is there changes nothing
pub lists_with : (keys : List (Vec ℕ)) (v : Vec ℕ)
    → lists (if list_any (λ (k : Vec ℕ). bytes_eq v.items k.items) keys then keys
    else keys ++ v ∷ []) ≡ with_key bytes_eq (lists keys) v.items
lists_with keys v =
    rw (any-lists keys v.items) (by (list_any (λ k. bytes_eq v.items k.items) keys)) where
      by : (b : Bool) → lists (if b then keys else keys ++ v ∷ [])
          ≡ (if b then lists keys else lists keys ++ v.items ∷ [])
      by true = refl
      by false = lists-push keys v
