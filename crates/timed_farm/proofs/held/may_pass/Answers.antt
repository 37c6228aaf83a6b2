use Rattle.std.proofs.Common.{◌≡◌, ℕ, Some, slice_get, subst, arith}
use Rattle.std.proofs.lemmas.Option.{slice_get_within}
use Rattle.deb_relation.specs.Relations.{Atom}
use Rattle.plan_model.specs.Run.{archive}
use Rattle.timed_farm.specs.Held.{NoneBy}
use Rattle.timed_farm.proofs.HeldUp.{none-passes}
use Rattle.timed_farm.proofs.held.may_pass.Goals as goal

pub returns : goal.returns
returns c = λ _.
    let u = c.args.core.now.universe in
    none-passes u (archive u c.args.core.now.state.published) c.args.entry.now
    (subst (λ xs. (j : ℕ) (a : Atom) → slice_get xs j ≡ Some a
    → NoneBy u (archive u c.args.core.now.state.published) c.args.entry.now a)
    c.alternatives-atoms.ensures
    (λ j a at. c.loop-number.invariant j a
    (let within = slice_get_within c.alternatives-atoms.result.now j a at in
    omega (arith, within, c.loop-number-test.false)) at))
