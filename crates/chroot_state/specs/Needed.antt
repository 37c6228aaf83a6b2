-- When a configured package outside a set still needs a member, as the code asks it: by the entries
-- that members satisfy.
--
--   needs_members     an entry is met by a configured member and by nothing outside the set
--   is_needed         a configured package outside the set has such an entry
use Rattle.std.specs.Prelude.{ℕ, Bool, not, ◌&&◌, List}
use Rattle.std.specs.List.{list_any}
use Rattle.deb_relation.specs.Relations.{Entry}
use Rattle.farm_model.specs.Common.{Universe, satisfies_entry, Chroot, slot, some_slot, has_configured, member, entries}

-- a configured member satisfies the entry
abbrev pub met_inside : Universe → List ℕ → Chroot → Entry → Bool
met_inside u members c e =
    list_any (λ m. has_configured (satisfies_entry u e) m (slot c m)) members

-- a configured variant outside the set satisfies the entry
unfoldable pub met_outside : Universe → List ℕ → Chroot → Entry → Bool
met_outside u members c e =
    some_slot c (λ n s. not (member members n)
    && has_configured (satisfies_entry u e) n s)

abbrev pub needs_members : Universe → List ℕ → Chroot → Entry → Bool
needs_members u members c e = met_inside u members c e && not (met_outside u members c e)

unfoldable pub is_needed : Universe → List ℕ → Chroot → Bool
is_needed u members c =
    some_slot c (λ n s. not (member members n)
    && has_configured (λ v. list_any (needs_members u members c) (entries u v)) n s)
