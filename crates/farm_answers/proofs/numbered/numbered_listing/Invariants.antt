use Rattle.std.proofs.Common.{◌≡◌, ◌++◌, drop}
use Rattle.farm_answers.specs.Numbered.{numbered_lanes, numbered_listing_of}
use Rattle.farm_answers.proofs.numbered.numbered_listing.Given as goal

abbrev pub invariant-loop-number : goal.invariant-loop-number
invariant-loop-number l =
    l.text.items ++ numbered_lanes l.universe l.plan.lines.lanes l.number (drop l.number l.plan.lanes)
    ≡ numbered_listing_of l.universe l.plan.lanes l.plan.lines
