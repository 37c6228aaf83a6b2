use Rattle.word_archive.proofs.shared.SharedArchive.close.Given as goal
use Rattle.std.proofs.Common.{take, vec_capacity, vec_len, ◌≡◌, ◌≤◌}

abbrev pub invariant-loop-n : goal.invariant-loop-n
invariant-loop-n l =
    (l.words.items ≡ take l.n l.closed.words.items)
    × (l.names ≤ vec_capacity l.words)
    × (vec_len l.words ≡ l.n)
