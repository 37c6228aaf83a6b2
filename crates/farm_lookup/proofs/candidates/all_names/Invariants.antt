use Rattle.std.proofs.Common.{ℕ, ◌<◌}
use Rattle.farm_lookup.specs.Candidates.{IsCandidate}
use Rattle.farm_lookup.proofs.candidates.all_names.Given as goal

abbrev pub invariant-loop-name : goal.invariant-loop-name
invariant-loop-name l = (n : ℕ) → n < l.name → IsCandidate l.universe n l.index
