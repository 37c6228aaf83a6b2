use Rattle.std.proofs.Common.{sym, subst}
use Rattle.farm_lookup.specs.Candidates.{AreCandidates}
use Rattle.farm_lookup.proofs.candidates.Candidates.of.Goals as goal

pub invariant_of-result : goal.invariant_of-result
invariant_of-result c =
    subst (λ u. AreCandidates u c.in_ok-all_names.field-0) (sym c.of.ensures)
    c.in_ok-all_names.ensures
