use Rattle.std.proofs.Common.{◌≡◌, ◌++◌, map, take, drop}
use Rattle.drive_run.specs.LaneDesks.{closed}
use Rattle.drive_run.proofs.desk.close_all.Given as goal

abbrev pub invariant-loop-desk : goal.invariant-loop-desk
invariant-loop-desk l =
    l.desks ≡ map closed (take l.desk-index l.fn.desks) ++ drop l.desk-index l.fn.desks
