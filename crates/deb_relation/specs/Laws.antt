-- What reading and spelling keep; each is the contract of a function of src/laws.rt.
--
--   EntriesAreReadAgain    an entry that was read is read again from its spelling
use Rattle.std.specs.Prelude.{◌≡◌, ℕ, List, Ok}
use Rattle.deb_relation.specs.declared.kind.Kind.TheVariants.{Need}
use Rattle.deb_relation.specs.Field.{alternative_at, entry_at}
use Rattle.deb_relation.specs.Relations.{Atom, Entry}
use Rattle.deb_relation.specs.Spelling.{atom_text, entry_text}

-- what was read as an alternative of a Depends field (Debian Policy 7.1) is read again from its
-- spelling
abbrev pub AlternativesAreReadAgain : Type 0
AlternativesAreReadAgain = (text : List ℕ) (atom : Atom) → alternative_at Need text ≡ Ok atom
    → alternative_at Need (atom_text atom) ≡ Ok atom

-- the same of an entry
abbrev pub EntriesAreReadAgain : Type 0
EntriesAreReadAgain = (text : List ℕ) (entry : Entry) → entry_at Need text ≡ Ok entry
    → entry_at Need (entry_text entry) ≡ Ok entry
