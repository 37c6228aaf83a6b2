use Rattle.std.proofs.Common.{length, arith}
use Rattle.known_rows.specs.Clock.{count_of}
use Rattle.known_rows.proofs.WordRows.{none_counted}
use Rattle.known_rows.proofs.words.fill_words.Goals as goal

pub add_later-requires-clause-from : goal.add_later-requires-clause-from
add_later-requires-clause-from c =
    c.begun.ensures.fits (length c.args.known.lanes.now) c.requires.clock

pub add_later-requires-clause-later : goal.add_later-requires-clause-later
add_later-requires-clause-later c = λ j lt. omega (arith, c.begun.ensures.none j)

pub returns-clause-row : goal.returns-clause-row
returns-clause-row c p are =
    c.add_later.ensures.row p are
    (none_counted c.args.known.universe.now p (count_of c.begun.result) c.put_initial.new.words
    c.begun.ensures.none c.put_initial.ensures)
