use Rattle.std.proofs.Common.{◌≡◌, length, take}
use Rattle.farm_model.specs.Packages.{names}
use Rattle.wait_order.specs.Standing.{IsReached}
use Rattle.plan_cert.specs.Events.{left_by}
use Rattle.plan_cert.proofs.order.check_order.Given as goal

-- the items so far
abbrev pub invariant-loop-item : goal.invariant-loop-item
invariant-loop-item l =
    record {
      long : length l.archive ≡ names l.claim.universe.now;
      lanes : length l.made.items ≡ length l.claim.plan.now.lanes;
      reached : IsReached l.claim.universe.now l.claim.plan.now.lanes (take l.item l.order)
          l.archive
          (left_by l.claim.universe.now l.claim.plan.now.lanes l.made.items);
    }
