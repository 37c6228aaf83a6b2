use Rattle.std.proofs.Common.{◌≡◌, length}
use Rattle.farm_model.specs.Packages.{names}
use Rattle.wait_order.specs.Standing.{IsStanding, Leads}
use Rattle.wait_order.proofs.standing.advance.Given as goal

-- the lane stands at the place to which it was taken
abbrev pub invariant-loop-place : goal.invariant-loop-place
invariant-loop-place l =
    record {
      standing : IsStanding l.course.universe.now l.course.plan.now.lanes l.number l.at;
      place : l.at.place ≡ l.place;
      rows : l.rows ≡ l.initial.rows;
      long : length l.archive ≡ names l.course.universe.now;
      leads : Leads l.course.universe.now l.course.plan.now.lanes l.number l.initial.at.place
          l.place
          l.initial.order.items l.initial.archive l.order.items l.archive;
      same : l.place ≡ l.initial.at.place
          → (l.order.items ≡ l.initial.order.items) × (l.archive ≡ l.initial.archive);
    }
