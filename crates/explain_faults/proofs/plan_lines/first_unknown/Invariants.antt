use Rattle.std.proofs.Common.{◌≡◌, length}
use Rattle.deb_text.specs.Words.{words}
use Rattle.explain_faults.specs.PlanLines.{first_unknown}
use Rattle.explain_faults.proofs.plan_lines.first_unknown.Given as goal

abbrev pub invariant-loop-word : goal.invariant-loop-word
invariant-loop-word l =
    first_unknown l.universe l.kind (words l.text) ≡ first_unknown l.universe l.kind (words l.rest)

abbrev pub decreases-loop-word : goal.decreases-loop-word
decreases-loop-word l = length l.rest
