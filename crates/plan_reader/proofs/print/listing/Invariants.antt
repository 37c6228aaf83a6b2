use Rattle.std.proofs.Common.{◌≡◌, ◌++◌, drop}
use Rattle.std.specs.List.{flat_map}
use Rattle.plan_reader.specs.Listing.{lane_text, listing_of}
use Rattle.plan_reader.proofs.print.listing.Given as goal

abbrev pub invariant-loop-number : goal.invariant-loop-number
invariant-loop-number l =
    l.text.items ++ flat_map (lane_text l.universe) (drop l.number l.plan.lanes)
    ≡ listing_of l.universe l.plan.lanes
