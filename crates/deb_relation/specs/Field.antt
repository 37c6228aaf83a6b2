-- A relation field as a whole (Debian Policy 7.1): entries between commas, alternatives between
-- bars.
--
--   relations_at kind text              the field that a text spells, or its first fault
--   first_relations_at most kind text   the same, and of its entries no more than so many
--   only_judged read                    whether it is read, or its fault
use Rattle.std.specs.Prelude.{ℕ, Bool, not, ◌&&◌, List, take, filter, Option, Some, Result, Ok, Err, if◌then◌else◌}
use Rattle.std.specs.List.{list_any, list_all, slice_split}
use Rattle.deb_text.specs.Common.{is_byte, is_blank, behind, parts_left, ◌>>=◌, traverse}
use Rattle.deb_relation.specs.declared.error.TheConstants.{ALTERNATIVES, NO_ALTERNATIVE}
use Rattle.deb_relation.specs.declared.kind.Kind.{Kind}
use Rattle.deb_relation.specs.declared.operator.Op.{Op}
use Rattle.deb_relation.specs.Grammar.{name_at, qualifier_at, relation_at}
use Rattle.deb_relation.specs.Kinds.{has_alternatives}
use Rattle.deb_relation.specs.Marks.{comma, bar}
use Rattle.deb_relation.specs.Relations.{Item, ArchList, Atom, Entry, Relations}
use Rattle.deb_relation.specs.Restrictions.{archs_at, profiles_at}

-- the restrictions behind a relation
abbrev pub limits_at : Kind → List ℕ → Result (Option ArchList × List (List Item)) ℕ
limits_at kind text = do
  archs ← archs_at kind text
  profiles ← profiles_at kind archs.1
  Ok (archs.0, profiles)

-- the same, with what stands before them
abbrev pub limited_at : Kind → List ℕ → Option (List ℕ) → Option (Op × List ℕ) → List ℕ
    → Result Atom ℕ
limited_at kind name qualifier relation text = do
  archs ← archs_at kind text
  profiles ← profiles_at kind archs.1
  Ok (record {
    name = name;
    qualifier = qualifier;
    relation = relation;
    archs = archs.0;
    profiles = profiles;
  })

-- the parts in their order, blanks allowed between them
unfoldable pub atom_at : Kind → List ℕ → Result Atom ℕ
atom_at kind text = do
  name ← name_at (behind is_blank text)
  qualifier ← qualifier_at name.1
  relation ← relation_at kind (behind is_blank qualifier.1)
  limited_at kind name.0 qualifier.0 relation.0 (behind is_blank relation.1)

-- of blanks alone
abbrev pub is_empty_text : List ℕ → Bool
is_empty_text text = list_all is_blank text

-- an alternative is more than blanks
unfoldable pub alternative_at : Kind → List ℕ → Result Atom ℕ
alternative_at kind text = if is_empty_text text then Err NO_ALTERNATIVE else atom_at kind text

-- a kind without alternatives refuses the bar before it reads what stands beside it
unfoldable pub entry_at : Kind → List ℕ → Result Entry ℕ
entry_at kind text =
    if not (has_alternatives kind) && list_any (is_byte bar) text then Err ALTERNATIVES
    else traverse (alternative_at kind) (slice_split (is_byte bar) text)

-- the entries of what is left of a text, less those of blanks alone
unfoldable pub entries_left : Option (List ℕ) → List (List ℕ)
entries_left left = filter (λ text. not (is_empty_text text)) (parts_left (is_byte comma) left)

-- every entry, or the first fault of the first entry that has one
unfoldable pub relations_at : Kind → List ℕ → Result Relations ℕ
relations_at kind text = traverse (entry_at kind) (entries_left (Some text))

-- the whole field is judged, and its first entries are kept
unfoldable pub first_relations_at : ℕ → Kind → List ℕ → Result Relations ℕ
first_relations_at most kind text = relations_at kind text >>= λ entries. Ok (take most entries)

-- that something is read, or its fault
abbrev pub only_judged : {A F : Type 0} → Result A F → Result (Unit {0}) F
only_judged read = read >>= λ _. Ok tt
