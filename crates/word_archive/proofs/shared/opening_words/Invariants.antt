use Rattle.word_archive.proofs.shared.opening_words.Given as goal
use Rattle.std.proofs.Common.{take, ◌≡◌}

abbrev pub invariant-loop-name : goal.invariant-loop-name
invariant-loop-name l = l.words.items ≡ take l.name l.universe.initial
