-- Items by the number of their key: the list of keys, and beside it a list of items for each.
--
--   keys_with keys at key       the keys, where the key has this number or is a new one
--   group_at groups at          the items of the key with this number
--   groups_with f groups at     the items of that key changed, or of a new one made
use Rattle.std.specs.Prelude.{ℕ, List, [], ◌∷◌, ◌++◌, Option, Some, None, set, get_or}

abbrev pub keys_with : {K : Type 0} → List K → Option ℕ → K → List K
keys_with keys None key = keys ++ key ∷ []
keys_with keys (Some i) key = keys

abbrev pub group_at : {V : Type 0} → List (List V) → Option ℕ → List V
group_at groups None = []
group_at groups (Some i) = get_or groups i []

abbrev pub groups_with : {V : Type 0} → (List V → List V) → List (List V) → Option ℕ
    → List (List V)
groups_with f groups None = groups ++ f [] ∷ []
groups_with f groups (Some i) = set groups i (f (get_or groups i []))
