use Rattle.std.proofs.Common.{◌≡◌, ◌-◌}
use Rattle.drive_replay.specs.Onward.{led}
use Rattle.drive_replay.proofs.steps.leads.Given as goal

abbrev pub invariant-loop : goal.invariant-loop
invariant-loop l =
    led (l.place - l.counter) l.core l.lane l.place ≡ led l.place l.fn.core l.lane l.place
