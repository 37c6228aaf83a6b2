use Rattle.std.proofs.Common.{take}
use Rattle.sat_rows.specs.Links.{IsJoined}
use Rattle.sat_rows.proofs.joined.joined_at.Given as goal

abbrev pub invariant-loop-entry : goal.invariant-loop-entry
invariant-loop-entry l =
    IsJoined (take l.entry-index l.entries) l.by_entry l.bit l.found
