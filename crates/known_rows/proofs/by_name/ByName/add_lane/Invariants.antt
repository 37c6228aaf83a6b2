use Rattle.known_rows.specs.ByName.{KeepsListed, AreLaneListed}
use Rattle.known_rows.proofs.by_name.ByName.add_lane.Given as goal

-- the outputs so far
abbrev pub invariant-loop-number : goal.invariant-loop-number
invariant-loop-number l =
    KeepsListed l.fn.self l.self × AreLaneListed l.self l.lane l.outputs l.number
