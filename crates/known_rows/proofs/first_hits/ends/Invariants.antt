use Rattle.std.proofs.Common.{◌≡◌, ℕ, ◌<◌, length, Some, slice_get, get_or}
use Rattle.known_rows.specs.declared.marks.LaneOutputs.{LaneOutputs}
use Rattle.known_rows.proofs.first_hits.ends.Given as goal

-- the lanes so far
abbrev pub invariant-loop-lane : goal.invariant-loop-lane
invariant-loop-lane l =
    (length l.ends.items ≡ length l.lanes)
    × ((k : ℕ) (of : LaneOutputs) → k < l.lane → slice_get l.lanes k ≡ Some of
    → get_or l.ends.items k 0 ≡ length of.outputs.items)
