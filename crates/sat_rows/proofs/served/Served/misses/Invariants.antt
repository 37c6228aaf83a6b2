use Rattle.std.proofs.Common.{◌≡◌, false, take, slice_index}
use Rattle.std.specs.List.{list_any}
use Rattle.sat_rows.specs.Served.{is_missed_by}
use Rattle.sat_rows.proofs.served.Served.misses.Given as goal

-- none so far
abbrev pub invariant-loop-at : goal.invariant-loop-at
invariant-loop-at l =
    list_any (is_missed_by l.self l.rows l.word (slice_index l.words l.name) l.words)
    (take l.at-index l.at-items) ≡ false
