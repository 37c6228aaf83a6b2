use Rattle.std.proofs.Common.{Bool, ℕ, [], ◌∷◌, ◌||◌, get_or, take_all, sym, ap, ◌∙◌, arith}
use Rattle.std.specs.List.{list_any}
use Rattle.std.proofs.lemmas.List.Folds.{list_any_at, list_any_more}
use Rattle.farm_model.specs.Common.{some_below, names, Universe}
use Rattle.plan_model.specs.May.{May}
use Rattle.may_rows.specs.Words.{may_of}
use Rattle.may_rows.specs.Withdraws.{needs_at}
use Rattle.may_rows.proofs.NeededNames.{needed_each}
use Rattle.may_rows.proofs.needed.some_needs.Goals as goal

abbrev needed : Universe → May → ℕ → Bool
needed u m k = some_below (names u) (needs_at u (k ∷ []) m)

pub returns-then-is_needed : goal.returns-then-is_needed
returns-then-is_needed c =
    let u = c.args.of.universe.now in
    let m = may_of c.args.state.now in
    sym (needed_each u m c.args.members.now
    ∙ list_any_at (needed u m) c.args.members.now c.loop-place.place 0 c.loop-place-test.true
    (sym c.is_needed.ensures ∙ c.if-is_needed.true))

pub loop-place-preserved : goal.loop-place-preserved
loop-place-preserved c =
    let p = needed c.args.of.universe.now (may_of c.args.state.now) in
    list_any_more p c.args.members.now c.loop-place.place 0 c.loop-place-test.true
    ∙ ap (λ t. t || p (get_or c.args.members.now c.loop-place.place 0)) c.loop-place.invariant
    ∙ sym c.is_needed.ensures ∙ c.if-is_needed.false

pub returns : goal.returns
returns c =
    let u = c.args.of.universe.now in
    let m = may_of c.args.state.now in
    sym (needed_each u m c.args.members.now
    ∙ ap (list_any (needed u m))
    (sym (take_all c.loop-place.place c.args.members.now (omega arith)))
    ∙ c.loop-place.invariant)
