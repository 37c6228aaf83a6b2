-- What is kept of the relation fields of a text. Only the contracts of private functions cite this
-- file.
--
--   entries_said kind text          the entries of a field that is kept as it is written
--   first_entries field             of its entries no more than tell that there are too many
--   first_relations_in kind text    these of a field, which may be absent
use Rattle.std.specs.Prelude.{ℕ, List, [], take, Option, Some, None, Result, Ok, Err}
use Rattle.deb_relation.specs.Common.{first_relations_at, relations_at, Relations}
use Rattle.deb_relation.specs.declared.kind.Kind.{Kind}
use Rattle.farm_universe.specs.declared.limits.TheConstants.{KEPT_ENTRIES}

-- none where the text spells no field
abbrev pub entries_or_none : Result Relations ℕ → Relations
entries_or_none (Ok entries) = entries
entries_or_none (Err code) = []

unfoldable pub entries_said : Kind → List ℕ → Relations
entries_said kind text = entries_or_none (relations_at kind text)

abbrev pub first_entries : Relations → Relations
first_entries field = take KEPT_ENTRIES field

abbrev pub first_relations_in : Kind → Option (List ℕ) → Result Relations ℕ
first_relations_in kind None = Ok []
first_relations_in kind (Some text) = first_relations_at KEPT_ENTRIES kind text
