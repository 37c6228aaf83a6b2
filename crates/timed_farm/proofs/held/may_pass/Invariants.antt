use Rattle.std.proofs.Common.{◌≡◌, ℕ, ◌<◌, Some, slice_get}
use Rattle.deb_relation.specs.Relations.{Atom}
use Rattle.plan_model.specs.Run.{archive}
use Rattle.timed_farm.specs.Held.{NoneBy}
use Rattle.timed_farm.proofs.held.may_pass.Given as goal

abbrev pub invariant-loop-number : goal.invariant-loop-number
invariant-loop-number l =
    (j : ℕ) (a : Atom) → j < l.number → slice_get l.atoms j ≡ Some a
    → NoneBy l.core.universe (archive l.core.universe l.core.state.published) l.entry a
