use Rattle.word_archive.proofs.shared.SharedArchive.published.Given as goal
use Rattle.std.proofs.Common.{map, ◌≡◌}
use Rattle.word_archive.specs.History.{lanes_published}
use Rattle.word_archive.specs.Seats.{log_of}

abbrev pub invariant-loop-lane : goal.invariant-loop-lane
invariant-loop-lane l =
    l.history.items ≡ lanes_published l.self.accepted.now (map log_of l.seats) l.lane
