-- A deconfigure and a remove in two steps: the members are withdrawn, and then the map tells
-- whether one of them may still be needed. The project's own rules.
use Rattle.std.specs.Prelude.{ℕ, Bool, false, not, ◌&&◌, List, [], ◌∷◌, slice_index}
use Rattle.std.specs.List.{list_any}
use Rattle.deb_relation.specs.Relations.{Entry, Relations}
use Rattle.farm_model.specs.Common.{Universe, essential, satisfies_entry, entries}
use Rattle.farm_model.specs.declared.types.Trap.{Trap}
use Rattle.farm_model.specs.declared.types.Trap.TheVariants.{WrongState, OverBudget, Essential}
use Rattle.plan_model.specs.Common.{MaySlot, MayAbsent, MayUnpacked, MayConfigured, May, any_of, may_have_configured, surely_met, is_surely_configured, is_surely_present, may_be_last, Lane, set_cost, may_exceed, some_may_member}
use Rattle.may_rows.specs.Words.{Words, written}

-- the words where what is configured of a name is no longer ready, but its last
abbrev pub name_withdrawn : Words → ℕ → Words
name_withdrawn w n = written w n (slice_index w.here n) 0 (slice_index w.ready n)

-- a slot whose variant is no longer configured, with what was configured until then
abbrev pub may_be_withdrawn : MaySlot → MaySlot
may_be_withdrawn MayAbsent = MayAbsent
may_be_withdrawn (MayUnpacked current last) = MayUnpacked current (λ b. false)
may_be_withdrawn (MayConfigured current) = MayUnpacked current current

-- a withdrawn member may have satisfied the entry
abbrev pub may_have_met : Universe → List ℕ → May → Entry → Bool
may_have_met u members m e =
    list_any (λ k. any_of u k (may_be_last (m.slots k)) (satisfies_entry u e)) members

-- such an entry is not surely met any more
abbrev pub may_be_missed : Universe → List ℕ → May → Relations → Bool
may_be_missed u members m es = list_any (λ e. may_have_met u members m e && not (surely_met u m e))
    es

-- a configured name may hold a variant with such an entry, by name
abbrev pub needs_at : Universe → List ℕ → May → ℕ → Bool
needs_at u members m n =
    may_have_configured u (λ v. may_be_missed u members m (entries u v)) n (m.slots n)

-- the tests of a deconfigure that are told before the members are withdrawn
abbrev pub deconfigure_risks_before : Lane → May → List ℕ → List (Bool × Trap)
deconfigure_risks_before of m members =
    (may_exceed of m (set_cost members), OverBudget)
    ∷ (list_any (λ k. not (is_surely_configured (m.slots k))) members, WrongState)
    ∷ []

-- the same of a remove
abbrev pub remove_risks_before : Universe → Lane → May → List ℕ → List (Bool × Trap)
remove_risks_before u of m members =
    (may_exceed of m (set_cost members), OverBudget)
    ∷ (list_any (λ k. not (is_surely_present (m.slots k))) members, WrongState)
    ∷ (some_may_member u members m (essential u), Essential)
    ∷ []
