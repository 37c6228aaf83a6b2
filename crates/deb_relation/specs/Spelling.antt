-- How an alternative and an entry are written (Debian Policy 7.1): one space before a version
-- relation and within it, ` | ` between two alternatives. A version stands as it was written.
--
--   atom_text, entry_text    an alternative, and an entry
use Rattle.std.specs.Prelude.{ℕ, List, [], ◌∷◌, ◌++◌, codes, Option, Some, None}
use Rattle.std.specs.List.{flat_map}
use Rattle.deb_relation.specs.declared.operator.Op.{Op}
use Rattle.deb_relation.specs.declared.operator.Op.TheVariants.{Earlier, EarlierOrEqual, Equal, LaterOrEqual, Later}
use Rattle.deb_relation.specs.Relations.{Atom, Entry}

-- an operator between versions
abbrev pub operator_text : Op → List ℕ
operator_text Earlier = codes "<<"
operator_text EarlierOrEqual = codes "<="
operator_text Equal = codes "="
operator_text LaterOrEqual = codes ">="
operator_text Later = codes ">>"

-- behind a name: ` (OP VERSION)`, where there is one
abbrev pub relation_text : Option (Op × List ℕ) → List ℕ
relation_text None = []
relation_text (Some (op, version)) =
    codes " (" ++ operator_text op ++ codes " " ++ version ++ codes ")"

-- behind a name: `:` and the qualifier, where there is one
abbrev pub qualifier_text : Option (List ℕ) → List ℕ
qualifier_text None = []
qualifier_text (Some qualifier) = codes ":" ++ qualifier

-- an alternative
unfoldable pub atom_text : Atom → List ℕ
atom_text atom = atom.name ++ qualifier_text atom.qualifier ++ relation_text atom.relation

-- alternatives, ` | ` before each
abbrev pub more_text : Entry → List ℕ
more_text atoms = flat_map (λ atom. codes " | " ++ atom_text atom) atoms

-- alternatives, ` | ` between two
abbrev pub entry_text : Entry → List ℕ
entry_text [] = []
entry_text (atom ∷ atoms) = atom_text atom ++ more_text atoms
