use Rattle.std.proofs.Common.{◌≡◌, false, [], ◌∷◌, take}
use Rattle.std.specs.List.{list_any}
use Rattle.farm_model.specs.Common.{some_below, names}
use Rattle.may_rows.specs.Words.{may_of}
use Rattle.may_rows.specs.Withdraws.{needs_at}
use Rattle.may_rows.proofs.needed.some_needs.Given as goal

abbrev pub invariant-loop-place : goal.invariant-loop-place
invariant-loop-place l =
    list_any
    (λ k. some_below (names l.of.universe.now)
    (needs_at l.of.universe.now (k ∷ []) (may_of l.state)))
    (take l.place l.members)
    ≡ false
