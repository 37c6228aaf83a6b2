-- The members of a base chroot, found by the names that they go by. The project's own words.
--
--   there_and_passes      a test of what may be there
--   provides_at           what a member provides at a place provides an alternative
--   is_another_member     a member is of another name than this one, if there is one
--   at_owner              a test of the member that an item is of
--   AreFound              each member is listed under its name, and what it provides under the
--   names
--                         of that
use Rattle.std.specs.Prelude.{◌≡◌, ℕ, Bool, true, false, not, ◌==◌, List, Option, None, Some, slice_get}
use Rattle.deb_relation.specs.Common.{Atom, provides_it}
use Rattle.item_index.specs.declared.item.Item.{Item}
use Rattle.item_index.specs.Items.{item, item_of, IsListed, IsListedField}
use Rattle.farm_universe.specs.BaseText.{Member}

-- what is there passes; what is not there does not
abbrev pub there_and_passes : {X : Type 0} → (X → Bool) → Option X → Bool
there_and_passes p None = false
there_and_passes p (Some x) = p x

-- what the member provides at the place provides the alternative
abbrev pub provides_at : Item ℕ → Member → Atom → Bool
provides_at at m a = there_and_passes (provides_it a) (item_of at m.binary.provides)

-- the member has another name than that of the number, if there is one
abbrev pub is_another_member : Option ℕ → Member → Bool
is_another_member None m = true
is_another_member (Some number) m = not (m.number == number)

-- the member that an item is of passes
abbrev pub at_owner : (Member → Bool) → List Member → Item ℕ → Bool
at_owner p ms at = there_and_passes p (slice_get ms at.owner)

pub record AreFound (ms : List Member) (named provided : List (List (Item ℕ))) : Type 0 where
  pub by_name : (k : ℕ) (m : Member) → slice_get ms k ≡ Some m → IsListed named m.name (item k 0 0)
  pub by_item : (k : ℕ) (m : Member) → slice_get ms k ≡ Some m
      → IsListedField provided k m.binary.provides
