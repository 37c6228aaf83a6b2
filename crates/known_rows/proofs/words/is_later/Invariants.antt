use Rattle.known_rows.specs.Clock.{count_of, AreWithin}
use Rattle.known_rows.proofs.words.is_later.Given as goal

-- the lanes so far
abbrev pub invariant-loop-other : goal.invariant-loop-other
invariant-loop-other l = AreWithin l.other (count_of l.from) (count_of l.to)
