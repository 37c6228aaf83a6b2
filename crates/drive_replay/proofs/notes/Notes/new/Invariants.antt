use Rattle.std.proofs.Common.{◌≡◌, ◌≤◌, length, take}
use Rattle.deb_text.specs.Lists.{lists}
use Rattle.drive_replay.specs.LaneNotes.{no_notes}
use Rattle.drive_replay.proofs.notes.Notes.new.Given as goal

abbrev pub invariant-loop-number : goal.invariant-loop-number
invariant-loop-number l =
    (l.number ≤ length l.plan.lanes)
    × (l.asked.items ≡ (no_notes (take l.number l.plan.lanes)).asked)
    × (lists l.places.items ≡ (no_notes (take l.number l.plan.lanes)).places)
