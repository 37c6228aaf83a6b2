use Rattle.std.proofs.Common.{◌≡◌, ◌++◌, take, flat_map}
use Rattle.explain_reasons.specs.Reasons.{excluded}
use Rattle.explain_reasons.proofs.listed.push_excluded.Given as goal

abbrev pub invariant-loop-place : goal.invariant-loop-place
invariant-loop-place l =
    l.found.items ≡ l.initial.found.items
    ++ flat_map (excluded l.universe l.how l.variant) (take l.place l.others)
