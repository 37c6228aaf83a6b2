-- Lists of names.
--
--   bare_name entry    the name of an entry that is a name alone
--   outputs_in value   names, each once, where any are named
--   drops_at text      words that are names, each once
use Rattle.std.specs.Prelude.{ℕ, Bool, false, not, ◌&&◌, ◌||◌, List, [], ◌∷◌, ◌++◌, Option, Some, None, Result, Ok, Err, ok_or, is_none, if◌then◌else◌}
use Rattle.std.specs.List.{list_all, list_any}
use Rattle.std.specs.Str.{bytes_eq}
use Rattle.deb_text.specs.Common.{◌>>=◌, is_name}
use Rattle.deb_profile.specs.WordList.{words_at}
use Rattle.deb_relation.specs.declared.error.TheConstants.{BAD_NAME}
use Rattle.deb_relation.specs.Common.{is_bare_atom, relations_at, Entry, Relations}
use Rattle.deb_relation.specs.declared.kind.Kind.TheVariants.{Provide}
use Rattle.import_wish.specs.declared.error.TheConstants.{NO_OUTPUT, TWICE, UNKNOWN_OUTPUT}
use Rattle.deb_fields.specs.Fields.{refused_if}

abbrev pub is_among : List (List ℕ) → List ℕ → Bool
is_among others name = list_any (bytes_eq name) others

abbrev pub bare_name : Entry → Option (List ℕ)
bare_name [] = None
bare_name (atom ∷ []) = if is_bare_atom atom && is_none atom.relation then Some atom.name else None
bare_name (atom ∷ more ∷ others) = None

-- the names of entries, each once, behind others
unfoldable pub names_from : List (List ℕ) → Relations → Result (List (List ℕ)) ℕ
names_from done [] = Ok done
names_from done (entry ∷ entries) =
    ok_or (bare_name entry) UNKNOWN_OUTPUT
    >>= λ name. refused_if (is_among done name) TWICE
    >>= λ _. names_from (done ++ name ∷ []) entries

abbrev pub outputs_of : Relations → Result (List (List ℕ)) ℕ
outputs_of [] = Err NO_OUTPUT
outputs_of (entry ∷ entries) = names_from [] (entry ∷ entries)

-- absent: all that the source gives
unfoldable pub outputs_in : Option (List ℕ) → Result (Option (List (List ℕ))) ℕ
outputs_in None = Ok None
outputs_in (Some text) = relations_at Provide text >>= outputs_of >>= λ names. Ok (Some names)

abbrev pub has_twice : List (List ℕ) → Bool
has_twice [] = false
has_twice (name ∷ names) = is_among names name || has_twice names

unfoldable pub drops_at : List ℕ → Result (List (List ℕ)) ℕ
drops_at text = do
  names ← words_at text
  named ← refused_if (not (list_all is_name names)) BAD_NAME
  once ← refused_if (has_twice names) TWICE
  Ok names
