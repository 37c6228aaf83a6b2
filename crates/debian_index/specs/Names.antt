-- The names that match an architecture, by dpkg's rule (Dpkg::Arch, debarch_is): its own, `any`,
-- and those that name some of its last parts and have `any` for the others.
--
--   spread part tails        each tail behind the part, and behind `any`
--   names_of architecture    all names, in this order
use Rattle.std.specs.Prelude.{ℕ, List, [], ◌∷◌, ◌++◌, drop, codes, if◌then◌else◌, Option, Some, None}
use Rattle.std.specs.List.{flat_map, list_any}
use Rattle.debian_index.specs.Tuples.{Parts, is_hyphen, tuple_at}

abbrev pub any : List ℕ
any = codes "any"

-- a part, a hyphen and a tail
abbrev pub joined : List ℕ → List ℕ → List ℕ
joined part tail = part ++ 45 ∷ tail

abbrev pub both : List ℕ → List ℕ → List (List ℕ)
both part tail = joined part tail ∷ joined any tail ∷ []

unfoldable pub spread : List ℕ → List (List ℕ) → List (List ℕ)
spread part tails = flat_map (both part) tails

-- the last parts, each as it is or `any`; the first of these has no `any`
abbrev pub two_of : Parts → List (List ℕ)
two_of parts = spread parts.system (parts.processor ∷ any ∷ [])

abbrev pub three_of : Parts → List (List ℕ)
three_of parts = spread parts.library (two_of parts)

abbrev pub four_of : Parts → List (List ℕ)
four_of parts = spread parts.abi (three_of parts)

-- those of two, three and four parts that have an `any`
abbrev pub wildcards_of : Option Parts → List (List ℕ)
wildcards_of None = []
wildcards_of (Some parts) =
    drop 1 (two_of parts) ++ drop 1 (three_of parts) ++ drop 1 (four_of parts)

-- of a name without a system, the name with its system
abbrev pub with_system : List ℕ → List (List ℕ)
with_system name = if list_any is_hyphen name then [] else joined (codes "linux") name ∷ []

unfoldable pub names_of : List ℕ → List (List ℕ)
names_of name = (name ∷ any ∷ []) ++ with_system name ++ wildcards_of (tuple_at name)
