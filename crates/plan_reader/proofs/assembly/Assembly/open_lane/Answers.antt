use Rattle.std.proofs.Common.{ap}
use Rattle.plan_reader.proofs.AssemblyLaws.{shut, lane-opened}
use Rattle.plan_reader.proofs.assembly.Assembly.open_lane.Goals as goal
use Rattle.plan_model.specs.Plan.{Lane}

pub invariant_of-self : goal.invariant_of-self
invariant_of-self c =
    let it = c.self.inside in
    let kept = shut it.blocks it.lanes.items it.count it.published.keys it.current
    (rw (← c.self.view_is) at c.requires) c.self.invariant in
    lane-opened it.blocks it.lanes.items it.count it.published.keys c.args.line _
    (ap (λ (l : Lane). l.instructions) c.new-lane.ensures) kept.1 c.self.invariant.few kept.0
