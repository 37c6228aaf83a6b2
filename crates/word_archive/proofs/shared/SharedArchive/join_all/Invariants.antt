use Rattle.word_archive.proofs.shared.SharedArchive.join_all.Given as goal
use Rattle.std.proofs.Common.{[], length, slice_get, take, ℕ, ◌≡◌, ◌≤◌}
use Rattle.word_archive.specs.Seats.{back}
use Rattle.word_archive.specs.Views.{base_view}

abbrev pub invariant-loop-lane : goal.invariant-loop-lane
invariant-loop-lane l =
    (l.base.table_id ≡ l.fn.base.table_id)
    × (l.base.me ≡ (
      base_view l.self.accepted.now l.fn.base.me.0.next l.fn.base.me.0.stopped
          (back 0 (take l.lane l.fn.seats.items)),
      [],
    ))
    × ((k : ℕ) → l.lane ≤ k → slice_get l.seats.items k ≡ slice_get l.fn.seats.items k)
    × (length l.seats.items ≡ length l.fn.seats.items)
