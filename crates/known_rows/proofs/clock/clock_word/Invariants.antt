use Rattle.std.specs.Prelude.{slice_index}
use Rattle.known_rows.specs.Clock.{count_of}
use Rattle.known_rows.proofs.ClockWords.{IsWordSoFar}
use Rattle.known_rows.proofs.clock.clock_word.Given as goal

-- the places so far
abbrev pub invariant-loop-k : goal.invariant-loop-k
invariant-loop-k l =
    IsWordSoFar l.known.lanes.now (count_of l.clock) l.places l.name
    (slice_index l.known.universe.now.initial l.name)
    l.k l.word
