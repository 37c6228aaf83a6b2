use Rattle.std.proofs.Common.{ap, ◌∙◌}
use Rattle.explain_lanes.specs.Stuck.{halted_notes}
use Rattle.wait_order.specs.Standing.{place_of}
use Rattle.explain_lanes.proofs.stuck.stuck_notes.Goals as goal

pub returns : goal.returns
returns g c =
    let p = c.args.stage.now.plan.now.lanes in
    let ats = c.in_ok-standings.field-0.standings.items in
    record {
      order = c.in_ok-standings.field-0.order.items;
      ats = ats;
      standing = c.in_ok-standings.ensures.standing;
      settled = c.in_ok-standings.ensures.settled;
      shown = rw (c.deref-2.ensures.value, c.deref-3.ensures.value) at c.in_ok-notes.ensures
          ∙ ap (λ nexts. halted_notes p c.args.stage.now.plan.now.lines.lanes nexts (place_of ats))
          (rw c.deref.ensures.value at c.in_ok-nexts.ensures);
    }
