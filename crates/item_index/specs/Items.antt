-- Alternatives of relation fields, listed under the names in them. The project's own words.
--
--   any_atom               some alternative of a field passes a test
--   item, item_of          the place of an alternative, and the alternative of a field there
--   listed, IsListed       the items under a name, among lists that a number of the text picks
--   with_listed            one more item under a name
--   KeepsItems             what was listed still is
--   IsListedEntry, IsListedField
--                          each alternative of an entry, and of a field, is listed under its name
use Rattle.std.specs.Prelude.{◌≡◌, ℕ, Bool, ◌+◌, ◌*◌, ◌%◌, List, [], ◌∷◌, ◌++◌, length, Option, Some, slice_get, slice_index_or, slice_set}
use Rattle.std.specs.List.{list_any}
use Rattle.deb_relation.specs.Relations.{Atom, Entry, Relations}
use Rattle.item_index.specs.declared.item.Item.{Item}

-- a number of the bytes that follow others
abbrev pub number_behind : ℕ → List ℕ → ℕ
number_behind number [] = number
number_behind number (b ∷ bs) = number_behind ((number * 31 + b) % 4294967296) bs

-- the list of a text among so many
abbrev pub list_of : ℕ → List ℕ → ℕ
list_of count text = number_behind 0 text % count

-- some alternative of some entry passes
abbrev pub any_atom : (Atom → Bool) → Relations → Bool
any_atom test field = list_any (λ e. list_any test e) field

module _ {O : Type 0} where
  -- the alternative of this number, of the entry of that
  abbrev pub item : O → ℕ → ℕ → Item O
  item owner i j = record { owner = owner; entry = i; alternative = j }

  -- the alternative at the place, if the field has one there
  abbrev pub item_of : Item O → Relations → Option Atom
  item_of at field = slice_get (slice_index_or field at.entry []) at.alternative

  -- the items under a name
  abbrev pub listed : List (List (Item O)) → List ℕ → List (Item O)
  listed lists text = slice_index_or lists (list_of (length lists) text) []

  -- the item stands in the list
  abbrev pub IsIn : List (Item O) → Item O → Type 0
  IsIn items at = (k : ℕ) × (slice_get items k ≡ Some at)

  abbrev pub IsListed : List (List (Item O)) → List ℕ → Item O → Type 0
  IsListed lists text at = IsIn (listed lists text) at

  -- one more item under a name
  abbrev pub with_listed : List (List (Item O)) → List ℕ → Item O → List (List (Item O))
  with_listed lists text at =
      slice_set lists (list_of (length lists) text) (listed lists text ++ at ∷ [])

  -- what was listed still is
  abbrev pub KeepsItems : List (List (Item O)) → List (List (Item O)) → Type 0
  KeepsItems old new = (text : List ℕ) (at : Item O) → IsListed old text at → IsListed new text at

  -- each alternative of the entry of a number is listed under its name, and each of a field
  abbrev pub IsListedEntry : List (List (Item O)) → O → ℕ → Entry → Type 0
  IsListedEntry lists owner i e =
      (j : ℕ) (a : Atom) → slice_get e j ≡ Some a → IsListed lists a.name (item owner i j)

  abbrev pub IsListedField : List (List (Item O)) → O → Relations → Type 0
  IsListedField lists owner field =
      (i : ℕ) (e : Entry) → slice_get field i ≡ Some e → IsListedEntry lists owner i e
