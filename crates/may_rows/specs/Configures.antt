-- The tests of a configure, in two parts: those that are told before the members are configured,
-- and those that are told by the map where they are. The project's own rules.
use Rattle.std.specs.Prelude.{ℕ, Bool, not, List, [], ◌∷◌, slice_index, if◌then◌else◌}
use Rattle.std.specs.List.{list_any}
use Rattle.farm_model.specs.Common.{Universe, pre_depends, depends, breaks, member, unmet}
use Rattle.farm_model.specs.declared.types.Trap.{Trap}
use Rattle.farm_model.specs.declared.types.Trap.TheVariants.{WrongState, PreDepends, Depends, Broken, OverBudget}
use Rattle.plan_model.specs.Common.{Lane, set_cost, MaySlot, May, some_other_name, may_have, surely_met, is_surely_unpacked, may_exceed, some_may_member}
use Rattle.may_rows.specs.Words.{Words, written}

-- the words where what is present of a name is configured
abbrev pub name_configured : Words → ℕ → Words
name_configured w n =
    written w n (slice_index w.here n) (slice_index w.here n) (slice_index w.here n)

-- the map with each member's slot changed
abbrev pub slots_after : (MaySlot → MaySlot) → May → List ℕ → May
slots_after f m members = record m {
  slots = λ n. if member members n then f (m.slots n) else m.slots n;
}

abbrev pub risks_before : Universe → Lane → May → List ℕ → List (Bool × Trap)
risks_before u of m members =
    (may_exceed of m (set_cost members), OverBudget)
    ∷ (list_any (λ k. not (is_surely_unpacked (m.slots k))) members, WrongState)
    ∷ (some_may_member u members m (λ v. unmet (surely_met u m) (pre_depends u v)), PreDepends)
    ∷ []

abbrev pub risks_after : Universe → May → List ℕ → List (Bool × Trap)
risks_after u m members =
    (some_may_member u members m (λ v. unmet (surely_met u m) (depends u v)), Depends)
    ∷ (
      some_may_member u members m
          (λ v. some_other_name u v.name m (may_have u (λ other. breaks u other v))),
      Broken,
    )
    ∷ []
