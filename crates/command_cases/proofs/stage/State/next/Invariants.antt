use Rattle.std.proofs.Common.{length}
use Rattle.command_cases.proofs.stage.State.next.Given as goal

abbrev pub decreases-loop-step : goal.decreases-loop-step
decreases-loop-step l = length l.self.steps.now
