use Rattle.std.proofs.Common.{◌≡◌, ◌-◌}
use Rattle.drive_replay.specs.Following.{life_of}
use Rattle.drive_replay.specs.Standings.{rested_from}
use Rattle.drive_replay.proofs.follow.Follower.rest_lanes.Given as goal

abbrev pub invariant-loop-lane : goal.invariant-loop-lane
invariant-loop-lane l =
    rested_from (l.lanes - l.lane) l.lane (life_of l.self)
    ≡ rested_from l.lanes 0 (life_of l.fn.self)
