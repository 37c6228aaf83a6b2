use Rattle.std.proofs.Common.{◌≡◌, ℕ, ◌<◌, false, get_or, []}
use Rattle.std.specs.Str.{bytes_eq}
use Rattle.cert_text.specs.CertLines.{lane_names}
use Rattle.cert_text.proofs.line.lane_of.Given as goal

abbrev pub invariant-loop-number : goal.invariant-loop-number
invariant-loop-number l =
    (j : ℕ) → j < l.number → bytes_eq l.name (get_or (lane_names l.plan.lanes) j []) ≡ false
