-- Why a base chroot is not settled. Parameters: u the universe, vs the members of the chroot, which
-- are told by their places among them, the first being 0.
--
--   wrong_with u vs check v     what is wrong with a member, by one of three checks
--   cause_of u capacity vs      the first of all that is wrong
use Rattle.std.specs.Prelude.{ℕ, ◌+◌, Bool, not, ◌&&◌, ◌||◌, ◌==◌, nat_le, List, [], ◌∷◌, position, Option, Some, None, if◌then◌else◌}
use Rattle.std.specs.List.{list_any}
use Rattle.std.specs.Option.{option_map, option_or}
use Rattle.deb_relation.specs.Relations.{Entry, Relations}
use Rattle.farm_model.specs.Common.{package_of, depends, pre_depends, size, satisfies_entry, satisfies_any, Universe}
use Rattle.farm_model.specs.declared.types.Variant.{Variant}
use Rattle.explain_faults.specs.declared.base_causes.Check.{Check}
use Rattle.explain_faults.specs.declared.found.Found.{Found}
use Rattle.explain_faults.specs.declared.found.Found.TheVariants.{Member, TooLarge}
use Rattle.explain_faults.specs.declared.found.Wrong.{Wrong}
use Rattle.explain_faults.specs.declared.found.Wrong.TheVariants.{Twice, Depends, PreDepends, Excludes}

-- another version of the member's name is there
abbrev pub is_twice : List Variant → Variant → Bool
is_twice vs v = list_any (λ w. w.name == v.name && not (w.bit == v.bit)) vs

-- some member satisfies the entry (Debian Policy 7.2)
abbrev pub is_met : Universe → List Variant → Entry → Bool
is_met u vs e = list_any (satisfies_entry u e) vs

-- the place of the first entry that none satisfies
unfoldable pub first_unmet : Universe → List Variant → Relations → Option ℕ
first_unmet u vs es = position (λ e. not (is_met u vs e)) es

-- the first conflicts with the second, which is of another name, or breaks it (Policy 7.3, 7.4)
abbrev pub excludes : Universe → Variant → Variant → Bool
excludes u v w =
    not (w.name == v.name)
    && (satisfies_any u (package_of u v).conflicts w || satisfies_any u (package_of u v).breaks w)

-- the place of the first member that one excludes
abbrev pub first_excluded : Universe → List Variant → Variant → Option ℕ
first_excluded u vs v = position (excludes u v) vs

unfoldable pub wrong_with : Universe → List Variant → Check → Variant → Option Wrong
wrong_with u vs Check.Names v = if is_twice vs v then Some Twice else None
wrong_with u vs Check.Needs v =
    option_or (option_map Depends (first_unmet u vs (depends u v)))
    (option_map PreDepends (first_unmet u vs (pre_depends u v)))
wrong_with u vs Check.Clashes v = option_map Excludes (first_excluded u vs v)

-- the first of these members with which something is wrong, where the first of them has this place
abbrev pub first_wrong : Universe → List Variant → Check → ℕ → List Variant → Option Found
first_wrong u vs check place [] = None
first_wrong u vs check place (w ∷ ws) =
    option_or (option_map (Member place) (wrong_with u vs check w))
    (first_wrong u vs check (place + 1) ws)

-- the disk space that they take, in KiB
abbrev pub size_of_all : Universe → List Variant → ℕ
size_of_all u [] = 0
size_of_all u (v ∷ vs) = size u v + size_of_all u vs

-- check by check
unfoldable pub cause_of : Universe → ℕ → List Variant → Option Found
cause_of u capacity vs =
    option_or (option_or (option_or (first_wrong u vs Check.Names 0 vs)
    (first_wrong u vs Check.Needs 0 vs)) (first_wrong u vs Check.Clashes 0 vs))
    (if nat_le (size_of_all u vs) capacity then None else Some TooLarge)
