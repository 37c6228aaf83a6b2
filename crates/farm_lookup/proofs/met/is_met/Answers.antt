use Rattle.std.proofs.Common.{◌≡◌, ℕ, false, Some, slice_get, refl, subst, sym, arith, ◌∙◌}
use Rattle.std.proofs.lemmas.Option.{slice_get_read, slice_get_within}
use Rattle.deb_relation.specs.Relations.{Atom}
use Rattle.farm_lookup.specs.Candidates.{has_variant}
use Rattle.farm_lookup.proofs.MetLaws.{met-at, none-met}
use Rattle.farm_lookup.proofs.met.is_met.Goals as goal

pub returns-then-some_by : goal.returns-then-some_by
returns-then-some_by c =
    let a = c.index-atoms-number.result in
    sym (met-at c.args.universe.now c.args.entry.now c.loop-number.number a
    (subst (λ xs. slice_get xs c.loop-number.number ≡ Some a) c.alternatives-atoms.ensures
    (slice_get_read c.alternatives-atoms.result.now _ c.loop-number.number a refl
    c.loop-number-test.true c.index-atoms-number.is))
    (sym c.some_by.ensures ∙ c.if-some_by.true))

pub returns : goal.returns
returns c =
    let u = c.args.universe.now in
    none-met u c.args.entry.now
    (subst (λ xs. (j : ℕ) (a : Atom) → slice_get xs j ≡ Some a → has_variant u a ≡ false)
    c.alternatives-atoms.ensures
    (λ j a at. c.loop-number.invariant j a
    (let within = slice_get_within c.alternatives-atoms.result.now j a at in
    omega (arith, within, c.loop-number-test.false)) at))
