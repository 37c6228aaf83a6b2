-- What an instruction does to one chroot: the traps that it may meet, in the order in which they
-- are tried, and the chroot after it. The project's own rules, unless said. Whether the archive has
-- a variant (X1), what was built (X13) and the budget (X14) are the farm's matter (plan_model).
--
--   first_trap                                                   the first trap whose test holds
--   unpack_traps, configure_traps, deconfigure_traps,
--   remove_traps, build_traps                                    the tests of each instruction
--   unpacked, configured, deconfigured, removed                  the chroot after it
use Rattle.std.specs.Prelude.{ℕ, ◌+◌, Bool, not, ◌&&◌, nat_lt, List, [], ◌∷◌, length, map, Option, Some, None, slice_set, if◌then◌else◌}
use Rattle.std.specs.List.{list_any, range_with_len}
use Rattle.farm_model.specs.declared.types.Variant.{Variant}
use Rattle.farm_model.specs.declared.types.Slot.{Slot}
use Rattle.farm_model.specs.declared.types.Slot.TheVariants.{Absent, Unpacked, Configured}
use Rattle.farm_model.specs.declared.types.Trap.{Trap}
use Rattle.farm_model.specs.declared.types.Trap.TheVariants.{PreDepends, Conflict, BreaksOther, Full, WrongState, Depends, Broken, StillNeeded, Unsettled, BuildDepends, BuildConflict, Essential}
use Rattle.farm_model.specs.Universe.{Universe, Recipe}
use Rattle.farm_model.specs.Packages.{size, essential, pre_depends, depends, satisfies_any, conflict, breaks}
use Rattle.farm_model.specs.Chroot.{Chroot, slot, some_slot, some_other, has_present, has_configured, is_present, is_unpacked, is_configured, last_of, used, member, meets_entry, met_with, pre_met, unmet, entries, unsettled}

-- the first trap whose test holds
unfoldable pub first_trap : List (Bool × Trap) → Option Trap
first_trap [] = None
first_trap (x ∷ xs) = if x.0 then Some x.1 else first_trap xs

-- unpack: a Pre-Depends entry is not met (Debian Policy 7.2); a conflict with a present variant of
-- another name, declared by either (7.4); a configured variant of another name is broken (7.3); no
-- room, the old and the new variant of the name taken together (the project's own rule)
abbrev pub unpack_traps : Universe → ℕ → Chroot → Variant → List (Bool × Trap)
unpack_traps u capacity c v =
    (unmet (pre_met u v.name c) (pre_depends u v), PreDepends)  -- X2
    ∷ (some_other c v.name (has_present (conflict u v)), Conflict)  -- X3
    ∷ (some_other c v.name (has_configured (breaks u v)), BreaksOther)  -- X4
    ∷ (nat_lt capacity (used u c + size u v), Full)  -- X5
    ∷ []

-- the name holds the variant, unpacked; its last configured variant stays
abbrev pub unpacked : Chroot → Variant → Chroot
unpacked c v = slice_set c v.name (Unpacked v.bit (last_of (slot c v.name)))

-- each member's slot changed
abbrev pub changed : (Slot → Slot) → Chroot → List ℕ → Chroot
changed f c members = map (λ n. if member members n then f (slot c n) else slot c n)
    (range_with_len 0 (length c))

-- some member's present variant passes
abbrev pub some_member : List ℕ → Chroot → (Variant → Bool) → Bool
some_member members c p = list_any (λ m. has_present p m (slot c m)) members

-- configure: a member is not unpacked; a Pre-Depends entry is not met, and members do not count
-- (Policy 7.2); a Depends entry is met neither by a configured variant nor by a member (7.2); a
-- present variant of another name breaks a member (7.3)
abbrev pub configure_traps : Universe → Chroot → List ℕ → List (Bool × Trap)
configure_traps u c members =
    (list_any (λ m. not (is_unpacked (slot c m))) members, WrongState)  -- X6
    ∷ (some_member members c (λ v. unmet (meets_entry u c) (pre_depends u v)), PreDepends)  -- X2
    ∷ (some_member members c (λ v. unmet (met_with u members c) (depends u v)), Depends)  -- X7
    ∷ (
      some_member members c (λ v. some_other c v.name (has_present (λ other. breaks u other v))),
      Broken,  -- X8
    )
    ∷ []

-- a slot whose variant is configured
abbrev pub configured_slot : Slot → Slot
configured_slot Absent = Absent
configured_slot (Unpacked b last) = Configured b
configured_slot (Configured b) = Configured b

-- the members are configured
abbrev pub configured : Chroot → List ℕ → Chroot
configured c members = changed configured_slot c members

-- a configured package outside the set has a Depends or Pre-Depends entry that is met before and
-- not after (the project's own rule; Policy 7.2 wants dependencies of configured packages kept)
unfoldable pub still_needed : Universe → List ℕ → Chroot → Chroot → Bool
still_needed u members before after =
    some_slot before
    (λ n s. not (member members n)
    && has_configured (λ v. list_any (λ e. meets_entry u before e && not (meets_entry u after e))
    (entries u v))
    n s)

-- a slot whose variant is unpacked again, and was configured last
abbrev pub deconfigured_slot : Slot → Slot
deconfigured_slot Absent = Absent
deconfigured_slot (Unpacked b last) = Unpacked b last
deconfigured_slot (Configured b) = Unpacked b (Some b)

-- the members are unpacked, and keep what was configured last
abbrev pub deconfigured : Chroot → List ℕ → Chroot
deconfigured c members = changed deconfigured_slot c members

-- deconfigure: a member is not configured; a package outside the set still needs one
abbrev pub deconfigure_traps : Universe → Chroot → List ℕ → List (Bool × Trap)
deconfigure_traps u c members =
    (list_any (λ m. not (is_configured (slot c m))) members, WrongState) ∷  -- X6
    (still_needed u members c (deconfigured c members), StillNeeded) ∷ []  -- X9

-- the members are absent, as after a purge
abbrev pub removed : Chroot → List ℕ → Chroot
removed c members = changed (λ s. Absent) c members

-- remove: a member is absent; the present variant of one is Essential (Policy 3.8); a package
-- outside the set still needs one
abbrev pub remove_traps : Universe → Chroot → List ℕ → List (Bool × Trap)
remove_traps u c members =
    (list_any (λ m. not (is_present (slot c m))) members, WrongState)  -- X6
    ∷ (some_member members c (essential u), Essential)  -- X15
    ∷ (still_needed u members c (removed c members), StillNeeded)  -- X9
    ∷ []

-- build: the chroot is not settled (the project's own rule); a need is not met, or a present
-- variant satisfies a clash (Policy 7.7); no room for the scratch space. A build leaves the chroot
-- as it is
abbrev pub build_traps : Universe → ℕ → Chroot → Recipe → List (Bool × Trap)
build_traps u capacity c r =
    (unsettled u c, Unsettled)  -- X10
    ∷ (unmet (meets_entry u c) r.needs, BuildDepends)  -- X11
    ∷ (some_slot c (has_present (satisfies_any u r.clashes)), BuildConflict)  -- X12
    ∷ (nat_lt capacity (used u c + r.scratch), Full)  -- X5
    ∷ []
