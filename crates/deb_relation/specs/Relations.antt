-- What a relation field says (Debian Policy 7.1): entries, all of them wanted, each a list of
-- alternatives, any of which will do.
--
--   Atom         one alternative
--   Entry        the alternatives of one entry
--   Relations    the entries of a field
use Rattle.std.specs.Prelude.{ℕ, Bool, List, Option}
use Rattle.deb_relation.specs.declared.operator.Op.{Op}

-- a word of a restriction, perhaps with `!` before it
pub record Item : Type 0 where
  pub word : List ℕ
  pub negated : Bool

-- `[name name]` or `[!name !name]` (Policy 7.1)
pub record ArchList : Type 0 where
  pub negated : Bool
  pub names : List (List ℕ)

-- one alternative: `name:qualifier (op version) [architectures] <profiles> ..`; a version stands
-- as its text
pub record Atom : Type 0 where
  pub name : List ℕ
  pub qualifier : Option (List ℕ)
  pub relation : Option (Op × List ℕ)
  pub archs : Option ArchList
  pub profiles : List (List Item)

abbrev pub Entry : Type 0
Entry = List Atom

abbrev pub Relations : Type 0
Relations = List Entry
