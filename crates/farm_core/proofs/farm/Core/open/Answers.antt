use Rattle.farm_core.proofs.Opened.{core-opened}
use Rattle.farm_core.proofs.farm.Core.open.Goals as goal

pub invariant_of-result : goal.invariant_of-result
invariant_of-result c =
    core-opened c.args.universe.now c.args.plan.now.lanes c.in_ok-lanes.lanes.items
    c.in_ok-archive.archive c.in_ok-lanes.ensures c.in_ok-archive.ensures.initial
    (record { universe = c.names-names.ensures.kept.sound; plan = c.requires.plan })
    c.in_ok-archive.ensures.room
