use Rattle.std.proofs.Common.{sym, ◌∙◌}
use Rattle.draft_plan.specs.Wanted.{numbered_lane}
use Rattle.draft_plan.proofs.Ranges.{mapped-more}
use Rattle.draft_plan.proofs.wanted.numbered_lanes.Goals as goal

pub loop-number-preserved : goal.loop-number-preserved
loop-number-preserved c =
    rw (c.in_ok-push.ensures.items, c.loop-number.invariant, c.in_ok-lane.ensures)
    (sym (mapped-more (numbered_lane c.args.bases) c.loop-number.number))
