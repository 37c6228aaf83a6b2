use Rattle.std.proofs.Common.{◌≡◌, true}
use Rattle.farm_model.specs.Below.{every_below}
use Rattle.farm_core.proofs.Views.{has_ended}
use Rattle.farm_core.proofs.farm.Core.finished.Given as goal

abbrev pub invariant-loop-number : goal.invariant-loop-number
invariant-loop-number l =
    every_below l.number (has_ended l.self.plan.lanes l.self.state) ≡ true
