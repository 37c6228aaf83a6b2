use Rattle.word_archive.proofs.shared.SharedArchive.seats.Given as goal
use Rattle.std.proofs.Common.{[], false, ◌≡◌}
use Rattle.word_archive.specs.Views.{base_view}
use Rattle.word_archive.proofs.SplitOff.{SplitOff}

abbrev pub invariant-loop-lane : goal.invariant-loop-lane
invariant-loop-lane l =
    (l.base.table_id ≡ l.self.table.shared.table_id)
    × (l.base.me ≡ (base_view l.self.accepted.now l.lane false [], []))
    × SplitOff l.self.table.shared.table_id l.self.accepted.now l.lane l.seats.items
