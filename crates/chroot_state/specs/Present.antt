-- The names that are present in a chroot.
--
--   sum_present       a sum over them
--   ListsPresent      a list has each of them once, and no other
--   IsPresentList     what the list of them keeps
use Rattle.std.specs.Prelude.{◌≡◌, ℕ, ◌<◌, ◌≤◌, ◌^◌, List, length, if◌then◌else◌}
use Rattle.std.specs.List.{sum_by}
use Rattle.farm_model.specs.Common.{sum_below, Chroot, slot, is_present}
use Rattle.farm_model.specs.declared.types.Slot.{Slot}

-- counts where something is present
abbrev pub if_present : Slot → ℕ → ℕ
if_present s k = if is_present s then k else 0

abbrev pub sum_present : Chroot → (ℕ → ℕ) → ℕ
sum_present c f = sum_below (length c) (λ n. if_present (slot c n) (f n))

-- whatever is summed over the list is what is summed over the names that are present
abbrev pub ListsPresent : Chroot → List ℕ → Type 0
ListsPresent c listed = (f : ℕ → ℕ) → sum_by f listed ≡ sum_present c f

-- there is room for all names, and each has a number of 32 bits
pub record IsPresentList (c : Chroot) (present : List ℕ) (room : ℕ) : Type 0 where
  pub listed : ListsPresent c present
  pub fits : length c ≤ room
  pub small : length c < 2 ^ 32
