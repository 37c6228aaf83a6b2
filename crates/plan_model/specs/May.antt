-- What a lane's chroot may hold at a place, and what surely holds of it. The project's own rules.
-- Parameters: u a universe, m a may map, n a name, b a bit, e an entry, s a slot of the map.
--
--   May, MaySlot                                    for each name what it may hold
--   may_hold, may_hold_configured, may_use          what may hold
--   surely_met, surely_met_with, surely_pre_met     what surely holds
use Rattle.std.specs.Prelude.{ℕ, Bool, true, false, not, ◌&&◌, ◌||◌, ◌==◌, List}
use Rattle.std.specs.List.{list_any}
use Rattle.deb_relation.specs.Relations.{Entry}
use Rattle.farm_model.specs.Common.{some_below, every_below, sum_below, greatest_below, Universe, names, variant, variants, size, satisfies, satisfies_entry, member}
use Rattle.farm_model.specs.declared.types.Variant.{Variant}

-- a set of variants of one name, by their bits
abbrev pub Bits : Type 0
Bits = ℕ → Bool

-- what a name may hold: nothing; an unpacked variant of `current`, and of `last` the one configured
-- last (where `last` is empty there is none, or it is not known); a configured variant of `current`
pub data MaySlot : Type 0 where
  MayAbsent : MaySlot
  MayUnpacked : (current last : Bits) → MaySlot
  MayConfigured : (current : Bits) → MaySlot

-- for each name what it may hold, the most that was spent, and for each recipe whether it was
-- surely built
pub record May : Type 0 where
  pub slots : ℕ → MaySlot
  pub cost : ℕ
  pub built : List Bool

-- each of these variants passes
abbrev pub all_of : Universe → ℕ → Bits → Bits → Bool
all_of u n set p = every_below (variants u n) (λ b. not (set b) || p b)

-- some of these variants passes
abbrev pub some_of : Universe → ℕ → Bits → Bits → Bool
some_of u n set p = some_below (variants u n) (λ b. set b && p b)

-- there is such a variant
abbrev pub is_some_of : Universe → ℕ → Bits → Bool
is_some_of u n set = some_below (variants u n) set

-- the slot of some name passes
abbrev pub some_name : Universe → May → (ℕ → MaySlot → Bool) → Bool
some_name u m p = some_below (names u) (λ n. p n (m.slots n))

-- a present variant may pass
abbrev pub may_hold : Universe → ℕ → Bits → MaySlot → Bool
may_hold u n p MayAbsent = false
may_hold u n p (MayUnpacked current last) = some_of u n current p
may_hold u n p (MayConfigured current) = some_of u n current p

-- a configured variant may pass
abbrev pub may_hold_configured : Universe → ℕ → Bits → MaySlot → Bool
may_hold_configured u n p MayAbsent = false
may_hold_configured u n p (MayUnpacked current last) = false
may_hold_configured u n p (MayConfigured current) = some_of u n current p

-- a variant is present, and passes whichever it is
abbrev pub surely_holds : Universe → ℕ → Bits → MaySlot → Bool
surely_holds u n p MayAbsent = false
surely_holds u n p (MayUnpacked current last) = all_of u n current p
surely_holds u n p (MayConfigured current) = all_of u n current p

-- a variant is configured, and passes whichever it is
abbrev pub surely_configured : Universe → ℕ → Bits → MaySlot → Bool
surely_configured u n p MayAbsent = false
surely_configured u n p (MayUnpacked current last) = false
surely_configured u n p (MayConfigured current) = all_of u n current p

-- the same of tests of variants, for the slot of this name: a present variant may pass
abbrev pub may_have : Universe → (Variant → Bool) → ℕ → MaySlot → Bool
may_have u p n s = may_hold u n (λ b. p (variant n b)) s

-- a configured variant may pass
abbrev pub may_have_configured : Universe → (Variant → Bool) → ℕ → MaySlot → Bool
may_have_configured u p n s = may_hold_configured u n (λ b. p (variant n b)) s

-- a variant is present, and passes whichever it is
abbrev pub surely_has : Universe → (Variant → Bool) → ℕ → MaySlot → Bool
surely_has u p n s = surely_holds u n (λ b. p (variant n b)) s

-- a variant is configured, and passes whichever it is
abbrev pub surely_has_configured : Universe → (Variant → Bool) → ℕ → MaySlot → Bool
surely_has_configured u p n s = surely_configured u n (λ b. p (variant n b)) s

-- each of these variants of a name passes
abbrev pub each_of : Universe → ℕ → Bits → (Variant → Bool) → Bool
each_of u n set p = all_of u n set (λ b. p (variant n b))

-- some of them passes
abbrev pub any_of : Universe → ℕ → Bits → (Variant → Bool) → Bool
any_of u n set p = some_of u n set (λ b. p (variant n b))

-- the slot of some name other than this one passes
abbrev pub some_other_name : Universe → ℕ → May → (ℕ → MaySlot → Bool) → Bool
some_other_name u name m p = some_name u m (λ n s. not (n == name) && p n s)

-- some configured name satisfies the entry whichever variant it holds
unfoldable pub surely_met : Universe → May → Entry → Bool
surely_met u m e = some_name u m (surely_has_configured u (satisfies_entry u e))

-- the same, where members count too
unfoldable pub surely_met_with : Universe → List ℕ → May → Entry → Bool
surely_met_with u members m e =
    some_name u m (λ n s. surely_has_configured u (satisfies_entry u e) n s
    || (member members n && surely_has u (satisfies_entry u e) n s))

-- of an unpacked name, for one alternative: there are present and last configured variants, and all
-- satisfy it
abbrev pub all_satisfy : Universe → Entry → ℕ → Bits → Bits → Bool
all_satisfy u e n current last =
    is_some_of u n current && (is_some_of u n last
    && list_any (λ a. each_of u n current (satisfies u a) && each_of u n last (satisfies u a)) e)

-- a name's slot meets the entry ahead of an unpack, whichever variant it holds
abbrev pub surely_pre_meets : Universe → Entry → ℕ → MaySlot → Bool
surely_pre_meets u e n MayAbsent = false
surely_pre_meets u e n (MayUnpacked current last) = all_satisfy u e n current last
surely_pre_meets u e n (MayConfigured current) = each_of u n current (satisfies_entry u e)

-- some name other than the one to be unpacked surely meets the entry ahead of the unpack
unfoldable pub surely_pre_met : Universe → ℕ → May → Entry → Bool
surely_pre_met u name m e = some_other_name u name m (surely_pre_meets u e)

-- the greatest size of the variants that a name may hold
abbrev pub greatest_size : Universe → ℕ → Bits → ℕ
greatest_size u n set = greatest_below (variants u n) set (λ b. size u (variant n b))

-- the greatest size that a slot may hold, in KiB
abbrev pub may_size : Universe → ℕ → MaySlot → ℕ
may_size u n MayAbsent = 0
may_size u n (MayUnpacked current last) = greatest_size u n current
may_size u n (MayConfigured current) = greatest_size u n current

-- the most disk space that may be taken
unfoldable pub may_use : Universe → May → ℕ
may_use u m = sum_below (names u) (λ n. may_size u n (m.slots n))

-- a variant is surely unpacked and not configured
abbrev pub is_surely_unpacked : MaySlot → Bool
is_surely_unpacked MayAbsent = false
is_surely_unpacked (MayUnpacked current last) = true
is_surely_unpacked (MayConfigured current) = false

-- one is surely configured
abbrev pub is_surely_configured : MaySlot → Bool
is_surely_configured MayAbsent = false
is_surely_configured (MayUnpacked current last) = false
is_surely_configured (MayConfigured current) = true

-- one is surely present
abbrev pub is_surely_present : MaySlot → Bool
is_surely_present MayAbsent = false
is_surely_present (MayUnpacked current last) = true
is_surely_present (MayConfigured current) = true
