-- A chroot: what it holds of each name, and when an entry is met in it. The project's own rules,
-- unless said. Parameters: u a universe, c a chroot, n a name, b a variant's bit, e an entry, s a
-- slot.
--
--   Chroot, slot, used          the slots by name; the disk space taken
--   meets_entry, met_with, pre_met  an entry is met; with the members of a set; ahead of an unpack
--   unsettled                   something present is not configured, or misses an entry
--   base_chroot                 what a base chroot holds
use Rattle.std.specs.Prelude.{ℕ, Bool, true, false, not, ◌&&◌, ◌||◌, ◌==◌, List, ◌++◌, length, map, Option, Some, None, slice_index_or}
use Rattle.std.specs.List.{list_any, find, range_with_len}
use Rattle.deb_relation.specs.Relations.{Entry, Relations}
use Rattle.farm_model.specs.declared.types.Variant.{Variant}
use Rattle.farm_model.specs.declared.types.Slot.{Slot}
use Rattle.farm_model.specs.declared.types.Slot.TheVariants.{Absent, Unpacked, Configured}
use Rattle.farm_model.specs.Below.{some_below, sum_below}
use Rattle.farm_model.specs.Universe.{Universe}
use Rattle.farm_model.specs.Packages.{variant, names, size, depends, pre_depends, base, satisfies, satisfies_entry}

-- the slots, by the number of the name
abbrev pub Chroot : Type 0
Chroot = List Slot

-- what the chroot holds of a name; past the last name nothing
abbrev pub slot : Chroot → ℕ → Slot
slot c n = slice_index_or c n Absent

-- the slot of some name passes
abbrev pub some_slot : Chroot → (ℕ → Slot → Bool) → Bool
some_slot c p = some_below (length c) (λ n. p n (slot c n))

-- a present variant passes
abbrev pub holds : (ℕ → Bool) → Slot → Bool
holds p Absent = false
holds p (Unpacked b last) = p b
holds p (Configured b) = p b

-- a configured variant passes
abbrev pub holds_configured : (ℕ → Bool) → Slot → Bool
holds_configured p Absent = false
holds_configured p (Unpacked b last) = false
holds_configured p (Configured b) = p b

-- a present variant of this name passes
abbrev pub has_present : (Variant → Bool) → ℕ → Slot → Bool
has_present p n s = holds (λ b. p (variant n b)) s

-- a configured variant of this name passes
abbrev pub has_configured : (Variant → Bool) → ℕ → Slot → Bool
has_configured p n s = holds_configured (λ b. p (variant n b)) s

-- the slot of some name other than this one passes
abbrev pub some_other : Chroot → ℕ → (ℕ → Slot → Bool) → Bool
some_other c name p = some_slot c (λ n s. not (n == name) && p n s)

-- a variant is present
abbrev pub is_present : Slot → Bool
is_present Absent = false
is_present (Unpacked b last) = true
is_present (Configured b) = true

-- it is unpacked and not configured (the state "unpacked" of dpkg(1))
abbrev pub is_unpacked : Slot → Bool
is_unpacked Absent = false
is_unpacked (Unpacked b last) = true
is_unpacked (Configured b) = false

-- it is configured (the state "installed" of dpkg(1))
abbrev pub is_configured : Slot → Bool
is_configured Absent = false
is_configured (Unpacked b last) = false
is_configured (Configured b) = true

-- the last configured variant of the name
abbrev pub last_of : Slot → Option ℕ
last_of Absent = None
last_of (Unpacked b last) = last
last_of (Configured b) = Some b

-- the size of what a slot holds, in KiB
abbrev pub size_in : Universe → ℕ → Slot → ℕ
size_in u n Absent = 0
size_in u n (Unpacked b last) = size u (variant n b)
size_in u n (Configured b) = size u (variant n b)

-- the disk space taken: the sizes of the present variants in KiB, by Installed-Size (Debian Policy
-- 5.6.20)
unfoldable pub used : Universe → Chroot → ℕ
used u c = sum_below (length c) (λ n. size_in u n (slot c n))

-- the name is a member of the set
abbrev pub member : List ℕ → ℕ → Bool
member members n = list_any (λ m. m == n) members

-- a configured variant satisfies the entry (Policy 7.2, Depends)
unfoldable pub meets_entry : Universe → Chroot → Entry → Bool
meets_entry u c e = some_slot c (has_configured (satisfies_entry u e))

-- the same, where the present variants of the members count too, since they are configured together
-- (the project's own rule; Policy 7.2 leaves open where a circle of dependencies is broken)
unfoldable pub met_with : Universe → List ℕ → Chroot → Entry → Bool
met_with u members c e =
    some_slot c (λ n s. has_configured (satisfies_entry u e) n s
    || (member members n && has_present (satisfies_entry u e) n s))

-- one alternative is satisfied by an unpacked variant and by the one that was configured last
abbrev pub both_satisfy : Universe → Entry → ℕ → ℕ → Option ℕ → Bool
both_satisfy u e n b None = false
both_satisfy u e n b (Some last) =
    list_any (λ a. satisfies u a (variant n b) && satisfies u a (variant n last)) e

-- a name's slot meets the entry ahead of an unpack
abbrev pub pre_meets : Universe → Entry → ℕ → Slot → Bool
pre_meets u e n Absent = false
pre_meets u e n (Unpacked b last) = both_satisfy u e n b last
pre_meets u e n (Configured b) = satisfies_entry u e (variant n b)

-- a name other than the one to be unpacked is configured, or is unpacked and was configured before,
-- in variants that satisfy the entry (Policy 7.2, Pre-Depends; one alternative for both: the
-- project's own rule)
unfoldable pub pre_met : Universe → ℕ → Chroot → Entry → Bool
pre_met u name c e = some_other c name (pre_meets u e)

-- an entry of the list is not met
abbrev pub unmet : (Entry → Bool) → Relations → Bool
unmet meets es = list_any (λ e. not (meets e)) es

-- Depends and Pre-Depends (Policy 7.2)
abbrev pub entries : Universe → Variant → Relations
entries u v = depends u v ++ pre_depends u v

-- a present variant is not configured, or an entry of one is not met (the project's own rule)
unfoldable pub unsettled : Universe → Chroot → Bool
unsettled u c = some_slot c (λ n s. is_unpacked s
    || has_present (λ v. unmet (meets_entry u c) (entries u v)) n s)

-- a slot of a base chroot: the package found is configured
abbrev pub base_slot : Option Variant → Slot
base_slot None = Absent
base_slot (Some v) = Configured v.bit

-- what a base chroot holds: each of its packages is configured
unfoldable pub base_chroot : Universe → ℕ → Chroot
base_chroot u b = map (λ n. base_slot (find (λ v. v.name == n) (base u b).packages))
    (range_with_len 0 (names u))
