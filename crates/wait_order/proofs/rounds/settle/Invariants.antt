use Rattle.std.proofs.Common.{◌≡◌, length}
use Rattle.farm_model.specs.Packages.{names}
use Rattle.wait_order.specs.Standing.{AreStanding, IsReached, left_of, all_ahead}
use Rattle.wait_order.proofs.rounds.settle.Given as goal

-- a board is reached, with the archive and the places of the lanes
abbrev pub invariant-loop-order : goal.invariant-loop-order
invariant-loop-order l =
    record {
      standing : AreStanding l.universe l.plan.lanes l.standings.items;
      long : length l.archive ≡ names l.universe;
      rows : l.rows ≡ l.universe;
      reached : IsReached l.universe l.plan.lanes l.order.items l.archive
          (left_of l.universe l.plan.lanes l.standings.items);
    }

abbrev pub decreases-loop-order : goal.decreases-loop-order
decreases-loop-order l = all_ahead l.plan.lanes l.standings.items
