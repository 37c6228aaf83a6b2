use Rattle.std.proofs.Common.{◌≡◌, ℕ, ◌<◌, false, Some, slice_get}
use Rattle.deb_relation.specs.Relations.{Atom}
use Rattle.farm_lookup.specs.Candidates.{has_variant}
use Rattle.farm_lookup.proofs.met.is_met.Given as goal

abbrev pub invariant-loop-number : goal.invariant-loop-number
invariant-loop-number l =
    (j : ℕ) (a : Atom) → j < l.number → slice_get l.atoms j ≡ Some a
    → has_variant l.universe a ≡ false
