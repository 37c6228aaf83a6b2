-- A field of a variant, put to the lists of its name. Only the contract of a private function cites
-- this file.
--
--   AddsField      the entries of a field are put to a list, with one bit
use Rattle.std.specs.Prelude.{◌≡◌, ◌⊎◌, ℕ, true, List, Some, slice_get}
use Rattle.deb_relation.specs.Relations.{Entry, Relations}
use Rattle.sat_rows.specs.declared.found.NumberWord.{NumberWord}
use Rattle.sat_rows.specs.Found.{among}
use Rattle.sat_rows.specs.Links.{IsEntryOf, IsNoted}

-- what was there stays, each entry is there by its number, and nothing else is new
pub record AddsField (entries : List Entry) (field : Relations) (bit : ℕ)
    (old new : List NumberWord) : Type 0 where
  pub kept : (k b : ℕ) → among old k b ≡ true → among new k b ≡ true
  pub only : (k b : ℕ) → among new k b ≡ true
      → (among old k b ≡ true) ⊎ ((b ≡ bit) × IsEntryOf entries field k)
  pub every : (i : ℕ) (e : Entry) → slice_get field i ≡ Some e → IsNoted entries e bit new
