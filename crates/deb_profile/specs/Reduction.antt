-- What an architecture and the active build profiles leave of a relation field (Debian Policy 7.1,
-- BuildProfileSpec).
--
--   bare names atom                 the alternative without restrictions and without a qualifier
--                                   that means nothing
--   reduced_entry names active e    the alternatives that stay
--   atoms_left names left           one of them, if it stays
--   left_of names active read       what is left of an entry that is read, or its fault
--   reduced names active field      the entries of which some alternative stays
--   reduced_at most names active kind text   no more than so many of them, of a field's text
--   is_bare field                   nothing of the field can go
use Rattle.std.specs.Prelude.{ℕ, Bool, not, ◌||◌, ◌&&◌, List, [], ◌∷◌, map, filter, take, codes, Option, Some, None, Result, Ok, if◌then◌else◌}
use Rattle.std.specs.List.{flat_map, list_all}
use Rattle.std.specs.Str.{bytes_eq}
use Rattle.deb_text.specs.Common.{is_nil, ◌>>=◌}
use Rattle.deb_relation.specs.Common.{relations_at, is_bare_atom, Atom, Entry, Relations}
use Rattle.deb_relation.specs.declared.kind.Kind.{Kind}
use Rattle.deb_profile.specs.Restriction.{is_among, keeps}

-- `any`, `native` and the names of the farm's own architecture: on a native farm of one
-- architecture they change nothing (the project's own rule)
abbrev pub means_nothing : List (List ℕ) → List ℕ → Bool
means_nothing names qualifier =
    bytes_eq qualifier (codes "any") || bytes_eq qualifier (codes "native")
    || is_among names qualifier

abbrev pub qualifier_left : List (List ℕ) → Option (List ℕ) → Option (List ℕ)
qualifier_left names None = None
qualifier_left names (Some qualifier) =
    if means_nothing names qualifier then None else Some qualifier

abbrev pub bare : List (List ℕ) → Atom → Atom
bare names atom = record {
  name = atom.name;
  qualifier = qualifier_left names atom.qualifier;
  relation = atom.relation;
  archs = None;
  profiles = [];
}

abbrev pub reduced_entry : List (List ℕ) → List (List ℕ) → Entry → Entry
reduced_entry names active entry = map (bare names) (filter (keeps names active) entry)

-- the same of one alternative, if it stays
abbrev pub atoms_left : List (List ℕ) → Option Atom → Entry
atoms_left names None = []
atoms_left names (Some atom) = bare names atom ∷ []

-- what is left of an entry that is read, or its fault
abbrev pub left_of : List (List ℕ) → List (List ℕ) → Result Entry ℕ → Result Entry ℕ
left_of names active read = read >>= λ entry. Ok (reduced_entry names active entry)

-- an entry with no alternative left goes
abbrev pub entry_left : Entry → Relations
entry_left [] = []
entry_left (atom ∷ atoms) = (atom ∷ atoms) ∷ []

abbrev pub reduced : List (List ℕ) → List (List ℕ) → Relations → Relations
reduced names active field = flat_map (λ entry. entry_left (reduced_entry names active entry)) field

-- the whole field is judged, and the first entries that are left of it are kept
unfoldable pub reduced_at : ℕ → List (List ℕ) → List (List ℕ) → Kind → List ℕ → Result Relations ℕ
reduced_at most names active kind text =
    relations_at kind text >>= λ field. Ok (take most (reduced names active field))

-- ---- what stays as it is, whatever the architecture and the profiles

abbrev pub is_bare_entry : Entry → Bool
is_bare_entry entry = not (is_nil entry) && list_all is_bare_atom entry

abbrev pub is_bare : Relations → Bool
is_bare field = list_all is_bare_entry field
