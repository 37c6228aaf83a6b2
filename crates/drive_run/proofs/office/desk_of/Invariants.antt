use Rattle.std.proofs.Common.{◌≡◌, take}
use Rattle.drive_run.specs.DoneBefore.{leasts}
use Rattle.drive_run.proofs.office.desk_of.Given as goal

abbrev pub invariant-loop-lane : goal.invariant-loop-lane
invariant-loop-lane l = l.least.items ≡ leasts (take l.lane-index l.lanes)
