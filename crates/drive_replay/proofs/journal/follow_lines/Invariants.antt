use Rattle.std.proofs.Common.{◌≡◌, ◌≤◌, ◌+◌, length}
use Rattle.deb_text.specs.Lines.{lines_of}
use Rattle.drive_journal.specs.Entries.{next_run, unended}
use Rattle.drive_replay.specs.Follow.{followed_by}
use Rattle.drive_replay.specs.Following.{first_life, life_of}
use Rattle.drive_replay.proofs.journal.follow_lines.Given as goal

abbrev pub invariant-loop-line : goal.invariant-loop-line
invariant-loop-line l =
    (followed_by l.number (life_of l.follower) (unended (lines_of l.rest))
    ≡ followed_by l.first (first_life l.universe l.plan) (unended (lines_of l.entries)))
    × (next_run (lines_of l.rest) ≡ next_run (lines_of l.entries))
    × (l.number + length l.rest ≤ l.first + length l.entries)
    × (l.follower.notes.ranks ≤ l.number)

abbrev pub decreases-loop-line : goal.decreases-loop-line
decreases-loop-line l = length l.rest
