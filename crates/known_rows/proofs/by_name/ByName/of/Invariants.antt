use Rattle.std.proofs.Common.{◌≡◌, length}
use Rattle.farm_model.specs.Packages.{names}
use Rattle.known_rows.specs.ByName.{AreListedByName}
use Rattle.known_rows.proofs.by_name.ByName.of.Given as goal

-- the lanes so far
abbrev pub invariant-loop-lane : goal.invariant-loop-lane
invariant-loop-lane l =
    (length l.lists ≡ names l.known.universe.now) × AreListedByName l.lists l.known.lanes.now l.lane
