-- What was read so far is what the reader has no more.
use Rattle.std.proofs.Common.{◌<◌, length}
use Rattle.farm_answers.specs.Reading.{IsReadOn}
use Rattle.farm_answers.proofs.bounded.read_pieces.Given as goal

abbrev pub invariant-loop : goal.invariant-loop
invariant-loop g l =
    (0 < length l.piece)
    × IsReadOn (g.R.Read.remaining l.initial.reader) (g.R.Read.remaining l.reader)
    l.initial.read.items l.read.items
