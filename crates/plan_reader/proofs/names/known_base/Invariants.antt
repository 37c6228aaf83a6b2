use Rattle.std.proofs.Common.{◌≡◌, ℕ, ◌<◌, false, get_or, []}
use Rattle.std.specs.Str.{bytes_eq}
use Rattle.plan_reader.specs.Drafts.{base_names}
use Rattle.plan_reader.proofs.names.known_base.Given as goal

abbrev pub invariant-loop-base : goal.invariant-loop-base
invariant-loop-base l =
    (j : ℕ) → j < l.base → bytes_eq l.word (get_or (base_names l.universe) j []) ≡ false
