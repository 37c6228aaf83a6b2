-- What a lane's chroot may hold behind two branches. The project's own rules. Parameters: u a
-- universe, n a name, first and second what may be at the ends of the branches.
--
--   phases_differ          some name is in another phase
--   joined_may             what may hold behind both
use Rattle.std.specs.Prelude.{ℕ, max, Bool, true, false, not, ◌&&◌, ◌||◌, List, [], ◌∷◌}
use Rattle.farm_model.specs.Common.{some_below, Universe, names}
use Rattle.plan_model.specs.May.{Bits, MaySlot, MayAbsent, MayUnpacked, MayConfigured, May, is_some_of}

-- both are absent, both unpacked, or both configured
abbrev pub is_same_phase : MaySlot → MaySlot → Bool
is_same_phase MayAbsent MayAbsent = true
is_same_phase (MayUnpacked current last) (MayUnpacked other before) = true
is_same_phase (MayConfigured current) (MayConfigured other) = true
is_same_phase s t = false

-- some name is in one phase at the end of the first branch, and in another at that of the second
unfoldable pub phases_differ : Universe → May → May → Bool
phases_differ u first second =
    some_below (names u) (λ n. not (is_same_phase (first.slots n) (second.slots n)))

-- the variants of either set
abbrev pub either : Bits → Bits → Bits
either set other b = set b || other b

-- of the variants configured last: those of either set, or none where one is empty, since then none
-- is known
abbrev pub either_last : Universe → ℕ → Bits → Bits → Bits
either_last u n last other b =
    (is_some_of u n last && is_some_of u n other) && (last b || other b)

-- a name that is in one phase; nothing is held where phases differ
abbrev pub joined_slot : Universe → ℕ → MaySlot → MaySlot → MaySlot
joined_slot u n (MayUnpacked current last) (MayUnpacked other before) =
    MayUnpacked (either current other) (either_last u n last before)
joined_slot u n (MayConfigured current) (MayConfigured other) =
    MayConfigured (either current other)
joined_slot u n s t = MayAbsent

-- what is built at the end of both
abbrev pub both_built : List Bool → List Bool → List Bool
both_built (x ∷ xs) (y ∷ ys) = (x && y) ∷ both_built xs ys
both_built xs ys = []

-- the map behind both branches: what either may hold, the greater cost, and what both have built
abbrev pub joined_may : Universe → May → May → May
joined_may u first second = record {
  slots =
      λ n. joined_slot u n (first.slots n) (second.slots n);
  cost = max first.cost second.cost;
  built = both_built first.built second.built;
}
